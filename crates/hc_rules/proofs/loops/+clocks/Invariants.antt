-- The parts of a statement and of a list fall along the calls, and each loop keeps what it passed of its list.
use Rattle.std.proofs.Common.{◌+◌, ◌*◌, [], ◌∷◌, length}
use Rattle.hc_core.specs.Read.{statement, statements, cases, arms}
use Rattle.hc_core.specs.Parts.{statement_parts, all_parts, cases_parts, arms_parts}
use Rattle.hc_core.specs.Rules.{endless}
use Rattle.hc_rules.proofs.Places.{CasesLeft}
use Rattle.hc_rules.proofs.Clocks.{Passed, ArmsPassed}
use Rattle.hc_rules.proofs.loops.+clocks.Given as goal

abbrev pub decreases-of_statement : goal.decreases-of_statement
decreases-of_statement l = 2 * statement_parts (statement l.s.now)

abbrev pub decreases-of_all : goal.decreases-of_all
decreases-of_all l = 2 * all_parts (statements l.list.now) + 1

abbrev pub decreases-of_case : goal.decreases-of_case
decreases-of_case l = 2 * cases_parts (cases (l.case.now ∷ []))

abbrev pub decreases-of_cases : goal.decreases-of_cases
decreases-of_cases l = 2 * cases_parts (cases l.list.now) + 1

abbrev pub decreases-of_arms : goal.decreases-of_arms
decreases-of_arms l = 2 * arms_parts (arms l.list.now) + 1

abbrev pub invariant-of_all-loop-rest : goal.invariant-of_all-loop-rest
invariant-of_all-loop-rest l = Passed (statements l.list) (statements l.rest) l.all.zero l.all.endless

abbrev pub decreases-of_all-loop-rest : goal.decreases-of_all-loop-rest
decreases-of_all-loop-rest l = length l.rest

abbrev pub invariant-of_cases-loop-rest : goal.invariant-of_cases-loop-rest
invariant-of_cases-loop-rest l = CasesLeft endless (cases l.list) (cases l.rest)

abbrev pub decreases-of_cases-loop-rest : goal.decreases-of_cases-loop-rest
decreases-of_cases-loop-rest l = length l.rest

abbrev pub invariant-of_arms-loop-rest : goal.invariant-of_arms-loop-rest
invariant-of_arms-loop-rest l = ArmsPassed (arms l.list) (arms l.rest) l.all.zero l.all.endless

abbrev pub decreases-of_arms-loop-rest : goal.decreases-of_arms-loop-rest
decreases-of_arms-loop-rest l = length l.rest
