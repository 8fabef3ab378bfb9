use Rattle.hc_bits.proofs.Chains.{CarriesMade}
use Rattle.hc_bits.proofs.carry.carries.Given as goal

abbrev pub invariant-loop-i : goal.invariant-loop-i
invariant-loop-i l = CarriesMade l.initial.b l.b l.g l.p l.c l.carry l.i
