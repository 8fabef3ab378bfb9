use Rattle.std.proofs.Common.{◌≡◌, ◌∷◌, take}
use Rattle.hc_bits.proofs.each.above.Given as goal

abbrev pub invariant-loop-net : goal.invariant-loop-net
invariant-loop-net l = l.z ≡ l.lowest ∷ take l.net-index l.nets
