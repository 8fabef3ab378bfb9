use Rattle.std.proofs.Common.{◌≡◌, take}
use Rattle.std.specs.Prelude.{map}
use Rattle.hc_net.specs.Run.{net_bit}
use Rattle.hc_netsim.proofs.numbers.put_bits_on.Given as goal

abbrev pub invariant-loop-k : goal.invariant-loop-k
invariant-loop-k l = take l.k l.bits ≡ map (net_bit l.values) (take l.k l.nets)
