-- Powers of 2, and products that leave the range of constants.
use Rattle.std.proofs.Common.{◌≡◌, ◌≢◌, ℕ, zero, suc, ◌*◌, ◌/◌, ◌^◌, ◌<◌, ◌≤◌, ℤ, pos, negsuc, ◌*ℤ◌, neg_ℤ, unsigned_abs, refl, ap, ◌∙◌, ◌-◌, None, arith}
use Rattle.std.proofs.Math.Nat.{div-eq_of_lt, pow-le-pow_right}
use Rattle.std.proofs.lemmas.Nat.Bits.{ones_shr}
use Rattle.hc_width.specs.Whole.{within_range}

pub pow_rises : (i j : ℕ) → i ≤ j → 2 ^ i ≤ 2 ^ j
pow_rises i j h = pow-le-pow_right {n = 2} (omega arith) h

-- a shift to the right by 128 and more leaves nothing of 128 bits
pub shr_all : (b n : ℕ) → b < 2 ^ 128 → 128 ≤ n → b / 2 ^ n ≡ 0
shr_all b n h l =
    let p = pow_rises 128 n l in
    div-eq_of_lt (omega arith)

above : (k : ℕ) → 2 ^ 128 ≤ k → within_range (pos k) ≡ None
above k h = grind arith

below : (k : ℕ) → 2 ^ 128 ≤ k → within_range (neg_ℤ (pos k)) ≡ None
below k h = grind arith

more_times : (m p q : ℕ) → q ≤ p → q ≤ suc m * p
more_times m p q h = grind arith

-- a shift to the left by 128 and more leaves the range, unless it is of 0
pub shl_none : (v : ℤ) (n : ℕ) → unsigned_abs v ≢ 0 → 128 ≤ n → within_range (v *ℤ pos (2 ^ n)) ≡ None
shl_none (pos zero) n h l = absurd (h refl)
shl_none (pos (suc m)) n h l = above (suc m * 2 ^ n) (more_times m (2 ^ n) (2 ^ 128) (pow_rises 128 n l))
shl_none (negsuc m) n h l = below (suc m * 2 ^ n) (more_times m (2 ^ n) (2 ^ 128) (pow_rises 128 n l))

-- `u128::MAX >> (128 - k)` has k ones
pub ones_of_128 : (k : ℕ) → k ≤ 128 → (2 ^ 128 - 1) / 2 ^ (128 - k) ≡ 2 ^ k - 1
ones_of_128 k h =
    let e : 128 - (128 - k) ≡ k = omega arith in
    ones_shr 128 (128 - k) (omega arith) ∙ ap (λ n. 2 ^ n - 1) e
