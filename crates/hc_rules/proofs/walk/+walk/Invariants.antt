-- The parts of a statement and of a list fall along the calls, and what was passed of a list has nothing that is found.
use Rattle.std.proofs.Common.{◌+◌, ◌*◌, [], ◌∷◌, length}
use Rattle.hc_core.specs.Read.{statement, statements, cases, arms}
use Rattle.hc_core.specs.Parts.{statement_parts, all_parts, cases_parts, arms_parts}
use Rattle.hc_rules.proofs.Places.{StatementsLeft, CasesLeft, ArmsLeft}
use Rattle.hc_rules.proofs.walk.+walk.Given as goal

abbrev pub decreases-first_where : goal.decreases-first_where
decreases-first_where g l = 3 * statement_parts (statement l.s.now) + 1

abbrev pub decreases-within : goal.decreases-within
decreases-within g l = 3 * statement_parts (statement l.s.now)

abbrev pub decreases-in_all : goal.decreases-in_all
decreases-in_all g l = 3 * all_parts (statements l.list.now) + 2

abbrev pub decreases-in_case : goal.decreases-in_case
decreases-in_case g l = 3 * cases_parts (cases (l.case.now ∷ []))

abbrev pub decreases-in_cases : goal.decreases-in_cases
decreases-in_cases g l = 3 * cases_parts (cases l.list.now) + 2

abbrev pub decreases-in_arms : goal.decreases-in_arms
decreases-in_arms g l = 3 * arms_parts (arms l.list.now) + 2

abbrev pub invariant-in_all-loop-rest : goal.invariant-in_all-loop-rest
invariant-in_all-loop-rest g l = StatementsLeft g.F.Finds.finds (statements l.list) (statements l.rest)

abbrev pub decreases-in_all-loop-rest : goal.decreases-in_all-loop-rest
decreases-in_all-loop-rest g l = length l.rest

abbrev pub invariant-in_cases-loop-rest : goal.invariant-in_cases-loop-rest
invariant-in_cases-loop-rest g l = CasesLeft g.F.Finds.finds (cases l.list) (cases l.rest)

abbrev pub decreases-in_cases-loop-rest : goal.decreases-in_cases-loop-rest
decreases-in_cases-loop-rest g l = length l.rest

abbrev pub invariant-in_arms-loop-rest : goal.invariant-in_arms-loop-rest
invariant-in_arms-loop-rest g l = ArmsLeft g.F.Finds.finds (arms l.list) (arms l.rest)

abbrev pub decreases-in_arms-loop-rest : goal.decreases-in_arms-loop-rest
decreases-in_arms-loop-rest g l = length l.rest
