-- The parts of a statement and of a list fall along the calls, and each loop keeps what it added.
use Rattle.std.proofs.Common.{◌+◌, ◌*◌, [], ◌∷◌, length}
use Rattle.hc_core.specs.Read.{statement, statements, cases, arms}
use Rattle.hc_core.specs.Parts.{statement_parts, all_parts, cases_parts, arms_parts}
use Rattle.hc_rules.proofs.Offering.{StatementsOffer, CasesOffer, ArmsOffer}
use Rattle.hc_rules.proofs.offers.+offers.Given as goal

abbrev pub decreases-of_statement : goal.decreases-of_statement
decreases-of_statement l = 2 * statement_parts (statement l.s.now)

abbrev pub decreases-of_all : goal.decreases-of_all
decreases-of_all l = 2 * all_parts (statements l.list.now) + 1

abbrev pub decreases-of_case : goal.decreases-of_case
decreases-of_case l = 2 * cases_parts (cases (l.case.now ∷ []))

abbrev pub decreases-of_cases : goal.decreases-of_cases
decreases-of_cases l = 2 * cases_parts (cases l.list.now) + 1

abbrev pub decreases-of_arms : goal.decreases-of_arms
decreases-of_arms l = 2 * arms_parts (arms l.list.now) + 1

abbrev pub invariant-of_all-loop-rest : goal.invariant-of_all-loop-rest
invariant-of_all-loop-rest l = StatementsOffer (statements l.list) l.initial.sends.items l.initial.receives.items (statements l.rest) l.sends.items l.receives.items

abbrev pub decreases-of_all-loop-rest : goal.decreases-of_all-loop-rest
decreases-of_all-loop-rest l = length l.rest

abbrev pub invariant-of_cases-loop-rest : goal.invariant-of_cases-loop-rest
invariant-of_cases-loop-rest l = CasesOffer (cases l.list) l.initial.sends.items l.initial.receives.items (cases l.rest) l.sends.items l.receives.items

abbrev pub decreases-of_cases-loop-rest : goal.decreases-of_cases-loop-rest
decreases-of_cases-loop-rest l = length l.rest

abbrev pub invariant-of_arms-loop-rest : goal.invariant-of_arms-loop-rest
invariant-of_arms-loop-rest l = ArmsOffer (arms l.list) l.initial.sends.items l.initial.receives.items (arms l.rest) l.sends.items l.receives.items

abbrev pub decreases-of_arms-loop-rest : goal.decreases-of_arms-loop-rest
decreases-of_arms-loop-rest l = length l.rest
