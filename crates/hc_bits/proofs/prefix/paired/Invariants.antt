use Rattle.std.proofs.Common.{◌*◌, ◌++◌, map}
use Rattle.hc_bits.specs.Carry.{paired}
use Rattle.hc_bits.proofs.Prefixes.{RowMade}
use Rattle.hc_bits.proofs.prefix.paired.Given as goal

abbrev pub invariant-loop-i : goal.invariant-loop-i
invariant-loop-i l = RowMade (2 * l.i) (l.g ++ l.p) l.initial.b l.b l.z (λ v. paired (map v l.g) (map v l.p)) (λ v. Unit {0}) l.i
