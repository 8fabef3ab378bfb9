use Rattle.std.proofs.Common.{◌≡◌, ◌++◌, replicate, None}
use Rattle.hc_net.specs.declared.node.Node.TheVariants.{Wire, Ram}
use Rattle.hc_net.proofs.ram_nodes.push_wires.Given as goal

abbrev pub invariant-loop-pushed : goal.invariant-loop-pushed
invariant-loop-pushed l = l.nodes ≡ l.initial.nodes ++ replicate l.pushed (Wire l.rank None)
