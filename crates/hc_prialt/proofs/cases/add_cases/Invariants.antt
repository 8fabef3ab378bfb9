use Rattle.hc_prialt.specs.Cases.{AddsCases}
use Rattle.hc_prialt.proofs.cases.add_cases.Given as goal

abbrev pub invariant-loop-i : goal.invariant-loop-i
invariant-loop-i l = AddsCases l.first l.active l.ready l.i l.initial.b l.b l.taken l.arm_starts l.free
