use Rattle.std.proofs.Common.{◌≡◌, length, take}
use Rattle.hc_net.specs.Circuit.{input_bits_of}
use Rattle.hc_net.proofs.seal.places.count_inputs.Given as goal

abbrev pub invariant-loop-node : goal.invariant-loop-node
invariant-loop-node l = l.count ≡ length (input_bits_of (take l.node-index l.nodes))
