use Rattle.std.proofs.Common.{drop}
use Rattle.std.specs.List.{flat_map}
use Rattle.hc_run.specs.Edif.{flop_line}
use Rattle.hc_run.proofs.Sending.{IsSending}
use Rattle.hc_run.proofs.edif.instances.send_flop_lines.Given as goal

abbrev pub invariant-loop-flop : goal.invariant-loop-flop
invariant-loop-flop g l =
    IsSending (flat_map flop_line l.flops) (flat_map flop_line (drop l.flop-index l.flops))
    l.fn.text.items l.text.items (g.K.Sink.state l.fn.out) (g.K.Sink.state l.out)
