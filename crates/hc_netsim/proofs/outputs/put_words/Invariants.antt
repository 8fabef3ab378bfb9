use Rattle.std.proofs.Common.{◌≡◌, ◌++◌, drop, take}
use Rattle.std.specs.Prelude.{map}
use Rattle.hc_net.specs.Run.{net_bit}
use Rattle.hc_netsim.specs.Held.{after_edge}
use Rattle.hc_netsim.proofs.outputs.put_words.Given as goal

abbrev pub invariant-loop-k : goal.invariant-loop-k
invariant-loop-k l = l.memories ≡ map (after_edge (net_bit l.values)) (take l.k l.initial.memories) ++ drop l.k l.initial.memories
