-- The numbers that were passed, which are the last ones, are in the set.
use Rattle.std.proofs.Common.{◌≡◌, ℕ, nat_eq, ◌≤◌, length, drop}
use Rattle.indexmap.specs.IndexSet.{contains}
use Rattle.hc_core.specs.Rules.{is_in}
use Rattle.hc_rules.proofs.numbers.set_of.Given as goal

abbrev pub invariant-loop-at : goal.invariant-loop-at
invariant-loop-at l = (l.at ≤ length l.numbers) × ((k : ℕ) → contains nat_eq l.set k ≡ is_in k (drop l.at l.numbers))

abbrev pub decreases-loop-at : goal.decreases-loop-at
decreases-loop-at l = l.at
