use Rattle.std.proofs.Common.{◌≡◌, take, length}
use Rattle.hc_net.proofs.ram_nodes.keep_first.Given as goal

abbrev pub invariant-loop-nodes : goal.invariant-loop-nodes
invariant-loop-nodes l = take l.count l.nodes ≡ take l.count l.initial.nodes

abbrev pub decreases-loop-nodes : goal.decreases-loop-nodes
decreases-loop-nodes l = length l.nodes
