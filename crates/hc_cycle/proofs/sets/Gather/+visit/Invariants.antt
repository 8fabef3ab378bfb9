-- The parts of a statement and of a list fall along the calls, and each loop keeps what it passed of its list.
use Rattle.std.proofs.Common.{◌+◌, ◌*◌, [], ◌∷◌, length}
use Rattle.hc_core.specs.Read.{statement, statements, cases, arms}
use Rattle.hc_core.specs.Parts.{statement_parts, all_parts, cases_parts, arms_parts}
use Rattle.hc_cycle.proofs.Lists.{BehindLeft, BranchesLeft, ArmsLeft, CaseArmsLeft}
use Rattle.hc_cycle.proofs.sets.Gather.+visit.Given as goal

abbrev pub decreases-visit : goal.decreases-visit
decreases-visit l = 5 * statement_parts (statement l.s.now)

abbrev pub decreases-prialt : goal.decreases-prialt
decreases-prialt l = 5 * cases_parts (cases l.list.now) + 4

abbrev pub decreases-prialt_else : goal.decreases-prialt_else
decreases-prialt_else l = 5 * (cases_parts (cases l.list.now) + statement_parts (statement l.rest.now)) + 4

abbrev pub decreases-cases : goal.decreases-cases
decreases-cases l = 5 * cases_parts (cases l.list.now) + 3

abbrev pub decreases-case_arms : goal.decreases-case_arms
decreases-case_arms l = 5 * cases_parts (cases l.list.now) + 2

abbrev pub decreases-case_arm : goal.decreases-case_arm
decreases-case_arm l = 5 * cases_parts (cases (l.case.now ∷ [])) + 1

abbrev pub decreases-sequence : goal.decreases-sequence
decreases-sequence l = 5 * all_parts (statements l.parts.now) + 2

abbrev pub decreases-behind : goal.decreases-behind
decreases-behind l = 5 * all_parts (statements l.list.now) + 1

abbrev pub decreases-parallel : goal.decreases-parallel
decreases-parallel l = 5 * all_parts (statements l.branches.now) + 1

abbrev pub decreases-choose : goal.decreases-choose
decreases-choose l = 5 * (statement_parts (statement l.yes.now) + statement_parts (statement l.no.now)) + 1

abbrev pub decreases-while_loop : goal.decreases-while_loop
decreases-while_loop l = 5 * statement_parts (statement l.body.now) + 1

abbrev pub decreases-do_loop : goal.decreases-do_loop
decreases-do_loop l = 5 * statement_parts (statement l.body.now) + 1

abbrev pub decreases-switch : goal.decreases-switch
decreases-switch l = 5 * arms_parts (arms l.list.now) + 2

abbrev pub decreases-arms : goal.decreases-arms
decreases-arms l = 5 * arms_parts (arms l.list.now) + 1

abbrev pub invariant-behind-loop-rest : goal.invariant-behind-loop-rest
invariant-behind-loop-rest l = BehindLeft l.fn.self l.self l.start l.fn.before l.all (statements l.list) (statements l.rest)

abbrev pub decreases-behind-loop-rest : goal.decreases-behind-loop-rest
decreases-behind-loop-rest l = length l.rest

abbrev pub invariant-parallel-loop-rest : goal.invariant-parallel-loop-rest
invariant-parallel-loop-rest l = BranchesLeft l.fn.self l.self l.start l.all (statements l.branches) (statements l.rest)

abbrev pub decreases-parallel-loop-rest : goal.decreases-parallel-loop-rest
decreases-parallel-loop-rest l = length l.rest

abbrev pub invariant-arms-loop-rest : goal.invariant-arms-loop-rest
invariant-arms-loop-rest l = ArmsLeft l.fn.self l.self l.start l.all l.other (arms l.list) (arms l.rest)

abbrev pub decreases-arms-loop-rest : goal.decreases-arms-loop-rest
decreases-arms-loop-rest l = length l.rest

abbrev pub invariant-case_arms-loop-rest : goal.invariant-case_arms-loop-rest
invariant-case_arms-loop-rest l = CaseArmsLeft l.fn.self l.self l.all (cases l.list) (cases l.rest)

abbrev pub decreases-case_arms-loop-rest : goal.decreases-case_arms-loop-rest
decreases-case_arms-loop-rest l = length l.rest

abbrev pub decreases-taken : goal.decreases-taken
decreases-taken l = 5 * statement_parts (statement l.arm.now) + 1
