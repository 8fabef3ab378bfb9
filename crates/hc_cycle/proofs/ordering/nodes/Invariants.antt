-- The nodes of the objects so far, and those of the others.
use Rattle.hc_cycle.proofs.Loops.{NodesLeft}
use Rattle.hc_cycle.proofs.ordering.nodes.Given as goal

abbrev pub invariant-loop-object : goal.invariant-loop-object
invariant-loop-object l = NodesLeft l.objects l.object-index l.k l.nodes
