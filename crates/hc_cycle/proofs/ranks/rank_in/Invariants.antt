-- The nodes before the bounds are less, and those behind are greater.
use Rattle.std.proofs.Common.{◌<◌, ◌≤◌, ◌-◌, ℕ, length, get_or}
use Rattle.hc_tree.specs.declared.refusal.Node.{Node}
use Rattle.hc_cycle.specs.Ranks.{number_of}
use Rattle.hc_cycle.proofs.ranks.rank_in.Given as goal

abbrev pub invariant-loop-low : goal.invariant-loop-low
invariant-loop-low l = (l.low ≤ l.high) × (l.high ≤ length l.pairs) × ((k : ℕ) (d : Node × ℕ) → k < l.low → number_of (get_or l.pairs k d).0 < l.number)
    × ((k : ℕ) (d : Node × ℕ) → l.high ≤ k → k < length l.pairs → l.number < number_of (get_or l.pairs k d).0)

abbrev pub decreases-loop-low : goal.decreases-loop-low
decreases-loop-low l = l.high - l.low
