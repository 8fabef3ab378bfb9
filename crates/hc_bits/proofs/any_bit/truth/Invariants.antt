use Rattle.std.proofs.Common.{◌≡◌, ◌*◌, ◌+◌, length, map, drop}
use Rattle.hc_net.specs.Made.{Makes}
use Rattle.hc_bits.proofs.Joined.{any}
use Rattle.hc_bits.proofs.any_bit.truth.Given as goal

abbrev pub invariant-loop-i : goal.invariant-loop-i
invariant-loop-i l = record {
  width : length l.nets ≡ length l.x + l.i;
  made : Makes l.i l.x l.initial.b l.b l.nets (λ v. any (drop (2 * l.i) (map v l.nets)) ≡ any (map v l.x));
}
