use Rattle.std.proofs.Common.{◌≡◌, length, drop}
use Rattle.hc_core.specs.Read.{arms as read_arms}
use Rattle.hc_control.proofs.Selectors.{Labelled}
use Rattle.hc_control.proofs.labels.labelled.Given as goal

abbrev pub invariant-loop-i : goal.invariant-loop-i
invariant-loop-i l = record {
  width : length l.nets ≡ l.i;
  done : Labelled l.zero l.x (read_arms l.arms) (read_arms (drop l.i l.arms)) l.initial.b l.b l.nets;
}
