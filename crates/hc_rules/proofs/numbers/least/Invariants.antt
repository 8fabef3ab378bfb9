-- What was found is the least of the numbers that were passed, which are the last ones.
use Rattle.std.proofs.Common.{◌≡◌, ◌≤◌, length, drop}
use Rattle.hc_core.specs.Rules.{least}
use Rattle.hc_rules.proofs.numbers.least.Given as goal

abbrev pub invariant-loop-at : goal.invariant-loop-at
invariant-loop-at l = (l.at ≤ length l.numbers) × (l.found ≡ least (drop l.at l.numbers))

abbrev pub decreases-loop-at : goal.decreases-loop-at
decreases-loop-at l = l.at
