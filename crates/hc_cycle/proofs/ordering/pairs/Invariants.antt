-- The pairs of the nodes so far.
use Rattle.std.proofs.Common.{◌≡◌, map, take}
use Rattle.hc_cycle.specs.Links.{ranked}
use Rattle.hc_cycle.proofs.ordering.pairs.Given as goal

abbrev pub invariant-loop-node : goal.invariant-loop-node
invariant-loop-node l = l.pairs ≡ map (ranked l.ranks) (take l.node-index l.nodes)
