use Rattle.std.proofs.Common.{drop}
use Rattle.std.specs.List.{flat_map}
use Rattle.hc_run.specs.Pins.{reader_part}
use Rattle.hc_run.proofs.Sending.{IsSending}
use Rattle.hc_run.proofs.edif.nets.send_readers.Given as goal

abbrev pub invariant-loop-reader : goal.invariant-loop-reader
invariant-loop-reader g l =
    IsSending (flat_map reader_part l.readers) (flat_map reader_part (drop l.reader-index l.readers))
    l.fn.text.items l.text.items (g.K.Sink.state l.fn.out) (g.K.Sink.state l.out)
