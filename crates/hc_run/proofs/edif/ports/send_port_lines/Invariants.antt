use Rattle.std.proofs.Common.{drop}
use Rattle.hc_run.specs.Edif.{port_lines, each_from}
use Rattle.hc_run.proofs.Sending.{IsSending}
use Rattle.hc_run.proofs.edif.ports.send_port_lines.Given as goal

abbrev pub invariant-loop-k : goal.invariant-loop-k
invariant-loop-k g l =
    IsSending (each_from port_lines 0 l.ports) (each_from port_lines l.k (drop l.k l.ports))
    l.fn.text.items l.text.items (g.K.Sink.state l.fn.out) (g.K.Sink.state l.out)
