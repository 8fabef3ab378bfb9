-- The least so far.
use Rattle.std.proofs.Common.{ℕ, ◌<◌, ◌≤◌, length, get_or}
use Rattle.hc_graph.proofs.cycle.least.Given as goal

abbrev pub invariant-loop-i : goal.invariant-loop-i
invariant-loop-i l = (l.at < length l.nodes) × ((k : ℕ) → k < l.i → get_or l.nodes l.at 0 ≤ get_or l.nodes k 0)
