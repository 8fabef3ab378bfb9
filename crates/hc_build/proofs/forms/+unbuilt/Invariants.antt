-- The parts of a statement and of a list fall along the calls, and what was passed of a list is built.
use Rattle.std.proofs.Common.{◌+◌, ◌*◌, length}
use Rattle.hc_core.specs.Read.{statement, statements, arms}
use Rattle.hc_core.specs.Parts.{statement_parts, all_parts, arms_parts}
use Rattle.hc_build.proofs.FormsPassed.{IsLeft, ArmsLeft}
use Rattle.hc_build.proofs.forms.+unbuilt.Given as goal

abbrev pub decreases-of_statement : goal.decreases-of_statement
decreases-of_statement l = 2 * statement_parts (statement l.s.now)

abbrev pub decreases-of_parts : goal.decreases-of_parts
decreases-of_parts l = 2 * all_parts (statements l.parts.now) + 1

abbrev pub decreases-of_arms : goal.decreases-of_arms
decreases-of_arms l = 2 * arms_parts (arms l.list.now) + 1

abbrev pub invariant-of_parts-loop-rest : goal.invariant-of_parts-loop-rest
invariant-of_parts-loop-rest l = IsLeft (statements l.parts) (statements l.rest)

abbrev pub decreases-of_parts-loop-rest : goal.decreases-of_parts-loop-rest
decreases-of_parts-loop-rest l = length l.rest

abbrev pub invariant-of_arms-loop-rest : goal.invariant-of_arms-loop-rest
invariant-of_arms-loop-rest l = ArmsLeft (arms l.list) (arms l.rest)

abbrev pub decreases-of_arms-loop-rest : goal.decreases-of_arms-loop-rest
decreases-of_arms-loop-rest l = length l.rest
