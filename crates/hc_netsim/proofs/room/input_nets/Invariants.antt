use Rattle.std.proofs.Common.{◌≡◌, ◌+◌, length, drop}
use Rattle.hc_net.specs.Run.{input_bits}
use Rattle.hc_netsim.proofs.room.input_nets.Given as goal

abbrev pub invariant-loop-port : goal.invariant-loop-port
invariant-loop-port l = l.nets + length (input_bits (drop l.port-index l.ports)) ≡ length (input_bits l.ports)
