use Rattle.hc_run.specs.Edif.{shape_lines}
use Rattle.hc_run.proofs.Sending.{IsSending}
use Rattle.hc_run.proofs.edif.library.send_shapes.Given as goal

abbrev pub invariant-loop-words : goal.invariant-loop-words
invariant-loop-words g l =
    IsSending (shape_lines l.shapes.keys) (shape_lines l.words-iterator)
    l.fn.text.items l.text.items (g.K.Sink.state l.fn.out) (g.K.Sink.state l.out)
