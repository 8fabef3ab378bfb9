-- The nodes so far, with names.
use Rattle.hc_cycle.proofs.Loops.{NamesLeft}
use Rattle.hc_cycle.proofs.ordering.named.Given as goal

abbrev pub invariant-loop-node : goal.invariant-loop-node
invariant-loop-node l = NamesLeft l.core l.nodes l.node-index l.named
