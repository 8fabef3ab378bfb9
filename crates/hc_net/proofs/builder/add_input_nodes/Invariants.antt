use Rattle.std.proofs.Common.{◌≡◌, ◌++◌}
use Rattle.hc_net.specs.Circuit.{input_nodes}
use Rattle.hc_net.proofs.builder.add_input_nodes.Given as goal

abbrev pub invariant-loop-bit : goal.invariant-loop-bit
invariant-loop-bit l = l.nodes ≡ l.initial.nodes ++ input_nodes l.port l.bit
