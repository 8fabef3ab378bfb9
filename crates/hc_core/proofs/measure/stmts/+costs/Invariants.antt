-- The parts of a statement and of a list fall along the calls, and each loop keeps what its list adds.
use Rattle.std.proofs.Common.{◌+◌, ◌*◌, [], ◌∷◌, length}
use Rattle.hc_core.specs.Read.{statement, statements, cases, arms}
use Rattle.hc_core.specs.Typed.{kinds_of}
use Rattle.hc_core.specs.Parts.{statement_parts, all_parts, cases_parts, arms_parts}
use Rattle.hc_core.proofs.Listing.{Listed, CasesListed, ArmsListed}
use Rattle.hc_core.proofs.measure.stmts.+costs.Given as goal

abbrev pub decreases-costs : goal.decreases-costs
decreases-costs l = 4 * statement_parts (statement l.s.now)

abbrev pub decreases-part : goal.decreases-part
decreases-part l = 4 * statement_parts (statement l.s.now) + 1

abbrev pub decreases-list : goal.decreases-list
decreases-list l = 4 * all_parts (statements l.parts.now) + 2

abbrev pub decreases-case : goal.decreases-case
decreases-case l = 4 * cases_parts (cases (l.case.now ∷ [])) + 2

abbrev pub decreases-case_list : goal.decreases-case_list
decreases-case_list l = 4 * cases_parts (cases l.all.now) + 3

abbrev pub decreases-arm_list : goal.decreases-arm_list
decreases-arm_list l = 4 * arms_parts (arms l.all.now) + 2

abbrev pub invariant-list-loop-rest : goal.invariant-list-loop-rest
invariant-list-loop-rest l = Listed (kinds_of l.objects) l.weight l.flops (statements l.parts) (statements l.rest) l.total.weight l.total.flops

abbrev pub decreases-list-loop-rest : goal.decreases-list-loop-rest
decreases-list-loop-rest l = length l.rest

abbrev pub invariant-case_list-loop-rest : goal.invariant-case_list-loop-rest
invariant-case_list-loop-rest l = CasesListed (kinds_of l.objects) (cases l.all) (cases l.rest) l.total.weight l.total.flops

abbrev pub decreases-case_list-loop-rest : goal.decreases-case_list-loop-rest
decreases-case_list-loop-rest l = length l.rest

abbrev pub invariant-arm_list-loop-rest : goal.invariant-arm_list-loop-rest
invariant-arm_list-loop-rest l = ArmsListed (kinds_of l.objects) l.each (arms l.all) (arms l.rest) l.total.weight l.total.flops

abbrev pub decreases-arm_list-loop-rest : goal.decreases-arm_list-loop-rest
decreases-arm_list-loop-rest l = length l.rest
