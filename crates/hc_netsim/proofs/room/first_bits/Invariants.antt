use Rattle.std.proofs.Common.{◌≡◌, take}
use Rattle.std.specs.Prelude.{map}
use Rattle.hc_netsim.proofs.room.first_bits.Given as goal

abbrev pub invariant-loop-flop : goal.invariant-loop-flop
invariant-loop-flop l = l.bits.items ≡ map (λ f. f.init) (take l.flop-index l.flops)
