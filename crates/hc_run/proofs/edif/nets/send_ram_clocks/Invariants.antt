use Rattle.std.proofs.Common.{drop}
use Rattle.std.specs.List.{flat_map}
use Rattle.hc_net.specs.Run.{rams_of}
use Rattle.hc_run.specs.Pins.{ram_clock_part}
use Rattle.hc_run.proofs.Sending.{IsSending}
use Rattle.hc_run.proofs.edif.nets.send_ram_clocks.Given as goal

abbrev pub invariant-loop-cell : goal.invariant-loop-cell
invariant-loop-cell g l =
    IsSending (flat_map ram_clock_part (rams_of l.cells)) (flat_map ram_clock_part (rams_of (drop l.cell-index l.cells)))
    l.fn.text.items l.text.items (g.K.Sink.state l.fn.out) (g.K.Sink.state l.out)
