use Rattle.hc_control.proofs.Selectors.{Found}
use Rattle.hc_control.proofs.labels.among.Given as goal

abbrev pub invariant-loop-i : goal.invariant-loop-i
invariant-loop-i l = Found l.zero l.x l.values l.i l.initial.b l.b l.net
