use Rattle.hc_value.proofs.Elements.{Terms}
use Rattle.hc_value.proofs.element.enabled_bits.Given as goal

abbrev pub invariant-loop-i : goal.invariant-loop-i
invariant-loop-i l = Terms l.fn.b l.b l.enables l.nets l.width l.place l.i l.terms
