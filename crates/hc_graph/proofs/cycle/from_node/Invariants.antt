-- The rest is an end of the path, and the node stands in it.
use Rattle.std.proofs.Common.{◌≡◌, ℕ, List, ◌++◌, length}
use Rattle.std.specs.List.{Contains}
use Rattle.hc_graph.proofs.cycle.from_node.Given as goal

abbrev pub invariant-loop-rest : goal.invariant-loop-rest
invariant-loop-rest l = ((before : List ℕ) × (l.path ≡ before ++ l.rest)) × Contains l.rest l.node

abbrev pub decreases-loop-rest : goal.decreases-loop-rest
decreases-loop-rest l = length l.rest
