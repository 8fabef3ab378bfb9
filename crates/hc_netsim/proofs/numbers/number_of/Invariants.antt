use Rattle.std.proofs.Common.{◌≡◌, drop}
use Rattle.hc_net.specs.Bits.{number}
use Rattle.hc_netsim.proofs.numbers.number_of.Given as goal

abbrev pub invariant-loop-k : goal.invariant-loop-k
invariant-loop-k l = l.number ≡ number (drop l.k l.bits)
