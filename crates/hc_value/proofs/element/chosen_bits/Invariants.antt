use Rattle.hc_value.proofs.Elements.{Bits}
use Rattle.hc_value.proofs.element.chosen_bits.Given as goal

abbrev pub invariant-loop-place : goal.invariant-loop-place
invariant-loop-place l = Bits l.fn.b l.b l.enables l.nets l.width l.place l.bits
