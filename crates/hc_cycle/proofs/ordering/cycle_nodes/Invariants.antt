-- The nodes so far.
use Rattle.std.proofs.Common.{◌≡◌, take}
use Rattle.hc_cycle.specs.Links.{nodes_in}
use Rattle.hc_cycle.proofs.ordering.cycle_nodes.Given as goal

abbrev pub invariant-loop-v : goal.invariant-loop-v
invariant-loop-v l = l.nodes ≡ nodes_in l.base (take l.v-index l.cycle)
