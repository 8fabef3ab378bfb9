use Rattle.std.proofs.Common.{◌+◌, ◌*◌, ◌/◌, ◌++◌, map, false}
use Rattle.hc_bits.specs.Carry.{carries}
use Rattle.hc_bits.proofs.Prefixes.{RowMade, PairsGiven}
use Rattle.hc_bits.proofs.prefix.spread.Given as goal

abbrev pub invariant-loop-i : goal.invariant-loop-i
invariant-loop-i l = RowMade (2 * ((l.i + 1) / 2)) (l.g ++ (l.p ++ l.c)) l.initial.b l.b l.z (λ v. carries false (map v l.g) (map v l.p)) (λ v. PairsGiven v l.g l.p l.c) l.i
