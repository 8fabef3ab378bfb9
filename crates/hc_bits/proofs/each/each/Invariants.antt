use Rattle.hc_bits.proofs.Rows.{EachMade}
use Rattle.hc_bits.proofs.each.each.Given as goal

abbrev pub invariant-loop-i : goal.invariant-loop-i
invariant-loop-i l = EachMade l.initial.b l.b l.kind l.x l.y l.z l.i
