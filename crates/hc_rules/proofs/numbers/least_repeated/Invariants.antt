-- The numbers that were passed, which are the last ones, are seen, and the least of them that stands twice is found.
use Rattle.std.proofs.Common.{◌≡◌, ℕ, nat_eq, ◌≤◌, length, drop}
use Rattle.indexmap.specs.IndexSet.{contains}
use Rattle.hc_core.specs.Rules.{least, is_in, repeated}
use Rattle.hc_rules.proofs.numbers.least_repeated.Given as goal

abbrev pub invariant-loop-at : goal.invariant-loop-at
invariant-loop-at l =
    (l.at ≤ length l.numbers) × ((k : ℕ) → contains nat_eq l.seen k ≡ is_in k (drop l.at l.numbers)) × (l.found ≡ least (repeated (drop l.at l.numbers)))

abbrev pub decreases-loop-at : goal.decreases-loop-at
decreases-loop-at l = l.at
