use Rattle.hc_scope.specs.Places.{IsBoundAt}
use Rattle.hc_scope.proofs.scope.find_bound.Given as goal

abbrev pub invariant-loop-at : goal.invariant-loop-at
invariant-loop-at l = IsBoundAt l.name l.parameters l.arguments l.at l.last
