use Rattle.hc_scope.specs.Calls.{texts}
use Rattle.hc_scope.proofs.Calls.{Differs}
use Rattle.hc_scope.proofs.call.differ.Given as goal

abbrev pub invariant-loop-x : goal.invariant-loop-x
invariant-loop-x l = Differs l.parameters l.x-index (texts l.names.keys)
