use Rattle.std.proofs.Common.{map}
use Rattle.hc_bits.specs.Carry.{upper_pass}
use Rattle.hc_bits.proofs.Prefixes.{RowMade}
use Rattle.hc_bits.proofs.prefix.upper_pass.Given as goal

abbrev pub invariant-loop-i : goal.invariant-loop-i
invariant-loop-i l = RowMade l.i l.p l.initial.b l.b l.z (λ v. upper_pass (map v l.p)) (λ v. Unit {0}) l.i
