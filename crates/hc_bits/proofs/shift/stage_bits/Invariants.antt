use Rattle.std.proofs.Common.{◌≡◌, ◌+◌, ◌*◌, ◌++◌, ◌∷◌, ◌&&◌, ◌||◌, length, map, get_or}
use Rattle.std.specs.List.{range_with_len}
use Rattle.hc_net.specs.Made.{Makes}
use Rattle.hc_bits.specs.Moved.{bit_of, nets_of}
use Rattle.hc_bits.proofs.shift.stage_bits.Given as goal

abbrev pub invariant-loop-i : goal.invariant-loop-i
invariant-loop-i l = record {
  width : length l.bits ≡ l.i;
  made : Makes (3 * l.i) (l.c ∷ l.stays ∷ nets_of l.fill ++ l.x) l.initial.b l.b l.bits (λ v. map v l.bits ≡ map (λ i. (v l.c && get_or (map v l.x) (i + l.distance) (bit_of v l.fill)) || (v l.stays && v (get_or l.x i 0))) (range_with_len 0 l.i));
}
