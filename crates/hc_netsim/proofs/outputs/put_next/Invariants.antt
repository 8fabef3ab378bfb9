use Rattle.std.proofs.Common.{◌≡◌, take}
use Rattle.std.specs.Prelude.{map}
use Rattle.hc_net.specs.Run.{net_bit}
use Rattle.hc_netsim.proofs.outputs.put_next.Given as goal

abbrev pub invariant-loop-k : goal.invariant-loop-k
invariant-loop-k l = take l.k l.state ≡ map (λ f. net_bit l.values f.d) (take l.k l.flops)
