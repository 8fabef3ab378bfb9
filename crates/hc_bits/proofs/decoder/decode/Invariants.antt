use Rattle.std.proofs.Common.{◌≡◌, ◌+◌, ◌-◌, ◌*◌, ◌/◌, ◌^◌, length, map, drop}
use Rattle.std.specs.Prelude.{◌==◌}
use Rattle.std.specs.List.{range_with_len}
use Rattle.hc_net.specs.Bits.{number}
use Rattle.hc_net.specs.Made.{Makes}
use Rattle.hc_bits.proofs.decoder.decode.Given as goal

abbrev pub invariant-loop-i : goal.invariant-loop-i
invariant-loop-i l = record {
  width : length l.terms ≡ (l.n - 1) / 2 ^ (l.top - l.i) + 1;
  made : Makes ((l.i + 1) * (l.n + 1)) l.x l.fn.b l.b l.terms (λ v. map v l.terms ≡ map (λ i. number (drop (l.top - l.i) (map v l.x)) == i) (range_with_len 0 (length l.terms)));
}
