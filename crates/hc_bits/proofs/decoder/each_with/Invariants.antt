use Rattle.std.proofs.Common.{◌≡◌, ◌/◌, ◌%◌, ◌∷◌, ◌&&◌, length, map, get_or}
use Rattle.std.specs.Prelude.{if◌then◌else◌, ◌==◌}
use Rattle.std.specs.List.{range_with_len}
use Rattle.hc_net.specs.Made.{Makes}
use Rattle.hc_bits.proofs.decoder.each_with.Given as goal

abbrev pub invariant-loop-i : goal.invariant-loop-i
invariant-loop-i l = record {
  width : length l.longer ≡ l.i;
  made : Makes l.i (l.bit ∷ l.otherwise ∷ l.terms) l.initial.b l.b l.longer (λ v. map v l.longer ≡ map (λ i. v (get_or l.terms (i / 2) 0) && v (if i % 2 == 0 then l.otherwise else l.bit)) (range_with_len 0 l.i));
}
