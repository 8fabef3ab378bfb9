-- The sign of a number: its value in two's complement, and the bits that enter where it is shifted to the right.
use Rattle.std.proofs.Common.{◌≡◌, ℕ, ◌+◌, ◌-◌, ◌/◌, ◌^◌, ◌<◌, ◌≤◌, true, false, sym, ◌∙◌, arith, inl, inr, ◌&&◌}
use Rattle.std.specs.Prelude.{ℤ}
use Rattle.std.specs.Int.{cast_signed, cast_unsigned, w128}
use Rattle.std.proofs.lemmas.Bool.{cond-true, cond-false, leb-false, and_from, cases_Bool}
use Rattle.std.proofs.lemmas.Int.{to_z_pos}
use Rattle.std.proofs.lemmas.Nat.{pow_pos, shr_le}
use Rattle.hc_num.specs.Number.{Number, all_ones, is_top_set, signed_value}
use Rattle.hc_num.specs.Shift.{entering}
use Rattle.hc_num.proofs.Widths.{pow_rises, ones_left, shr_below_width}

-- a number whose top bit is clear is its bits
pub signed_value-low :
    (a : Number) (z : ℤ)
    → is_top_set a ≡ false
    → a.width ≤ 128
    → z ≡ cast_signed w128 a.bits
    → cast_signed w128 (cast_unsigned w128 z) ≡ signed_value a
signed_value-low a z clear most is =
    let low = leb-false (2 ^ (a.width - 1)) a.bits clear in
    let p : 2 ^ (a.width - 1) ≤ 2 ^ 127 = pow_rises (a.width - 1) 127 (omega arith) in
    let e = to_z_pos w128 a.bits (omega arith) in
    rw (is ∙ e) (e ∙ sym (cond-false (is_top_set a) _ _ clear))

-- what lacks to `MAX >> n` are the ones that enter
pub entering-ones :
    (a : Number) (n : ℕ) → a.signed ≡ true → is_top_set a ≡ true → all_ones a - all_ones a / 2 ^ n ≡ entering a n
entering-ones a n signed top =
    let p = pow_pos (a.width - n) in
    let e = ones_left a.width n in
    let f : all_ones a - all_ones a / 2 ^ n ≡ 2 ^ a.width - 2 ^ (a.width - n) = omega arith in
    f ∙ sym (cond-true (a.signed && is_top_set a) _ _ (and_from a.signed (is_top_set a) signed top))

-- the bits that stay and those that enter are of the width together
pub shifted_right-fits : (a : Number) (n : ℕ) → a.bits < 2 ^ a.width → a.bits / 2 ^ n + entering a n < 2 ^ a.width
shifted_right-fits a n fits =
    let p : 2 ^ (a.width - n) ≤ 2 ^ a.width = pow_rises (a.width - n) a.width (omega arith) in
    let low = shr_below_width a.bits a.width n fits in
    let small = shr_le a.bits n in
    let enters = a.signed && is_top_set a in
    elim (cases_Bool enters) [
      | inl set ↦ let e = cond-true enters (2 ^ a.width - 2 ^ (a.width - n)) 0 set in rw e (omega arith)
      | inr clear ↦ let e = cond-false enters (2 ^ a.width - 2 ^ (a.width - n)) 0 clear in rw e (omega arith)
    ]
