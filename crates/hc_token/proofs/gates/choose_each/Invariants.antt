use Rattle.std.proofs.Common.{◌≡◌, ◌*◌, ◌++◌, ◌∷◌, ◌&&◌, ◌||◌, length, map, get_or}
use Rattle.std.specs.List.{range_with_len}
use Rattle.hc_net.specs.Made.{Makes}
use Rattle.hc_token.proofs.gates.choose_each.Given as goal

abbrev pub invariant-loop-i : goal.invariant-loop-i
invariant-loop-i l = record {
  width : length l.bits ≡ l.i;
  made : Makes (3 * l.i) (l.c ∷ l.d ∷ l.x ++ l.y) l.initial.b l.b l.bits (λ v. map v l.bits ≡ map (λ i. (v l.c && v (get_or l.x i 0)) || (v l.d && v (get_or l.y i 0))) (range_with_len 0 l.i));
}
