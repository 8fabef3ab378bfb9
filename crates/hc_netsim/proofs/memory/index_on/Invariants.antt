use Rattle.std.proofs.Common.{◌≡◌, ◌<◌, drop}
use Rattle.std.specs.Prelude.{map}
use Rattle.hc_net.specs.Bits.{number}
use Rattle.hc_net.specs.Run.{net_bit}
use Rattle.hc_netsim.proofs.memory.index_on.Given as goal

abbrev pub invariant-loop-k : goal.invariant-loop-k
invariant-loop-k l = record {
  index : l.index ≡ number (map (net_bit l.values) (drop l.k l.addr));
  inside : l.index < l.ram.words;
}
