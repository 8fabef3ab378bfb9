-- Sums, shifts and masks of numbers below a power of 2, as 128 bits of the machine give them.
use Rattle.std.proofs.Common.{◌≡◌, ℕ, ◌+◌, ◌-◌, ◌*◌, ◌/◌, ◌%◌, ◌^◌, ◌<◌, ◌≤◌, sym, ◌∙◌, ap, subst, arith, zero-add, inl, inr}
use Rattle.std.proofs.Math.Nat.{add-mul-mod_self_right, mul-mod_left, div-eq_of_lt, pow-le-pow_right}
use Rattle.std.proofs.Math.Pow.{mod-mod-pow}
use Rattle.std.proofs.lemmas.Bool.{cases_lt}
use Rattle.std.proofs.lemmas.Nat.{pow-add, pow_pos, shl_whole, shr_below, mul-add-lt}
use Rattle.std.proofs.lemmas.Nat.Bits.{ones_shr}

pub pow_rises : (i j : ℕ) → i ≤ j → 2 ^ i ≤ 2 ^ j
pow_rises i j h = pow-le-pow_right {n = 2} (omega arith) h

-- `u128::MAX >> (128 - k)` has k ones
pub ones_of_128 : (k : ℕ) → k ≤ 128 → (2 ^ 128 - 1) / 2 ^ (128 - k) ≡ 2 ^ k - 1
ones_of_128 k h =
    let e : 128 - (128 - k) ≡ k = omega arith in
    ones_shr 128 (128 - k) (omega arith) ∙ ap (λ n. 2 ^ n - 1) e

-- what wraps at 128 bits has the same lowest w bits
pub mod_128-mod : (n w : ℕ) → w ≤ 128 → n % 2 ^ 128 % 2 ^ w ≡ n % 2 ^ w
mod_128-mod n w h =
    let e : (128 - w) + w ≡ 128 = omega arith in
    subst (λ (k : ℕ). n % 2 ^ k % 2 ^ w ≡ n % 2 ^ w) e (mod-mod-pow n (128 - w) w)

-- 2^128 is a multiple of 2^w
pow_128 : (w : ℕ) → w ≤ 128 → 2 ^ 128 ≡ 2 ^ (128 - w) * 2 ^ w
pow_128 w h =
    let e : (128 - w) + w ≡ 128 = omega arith in
    subst (λ (k : ℕ). 2 ^ k ≡ 2 ^ (128 - w) * 2 ^ w) e (pow-add 2 (128 - w) w)

whole_less_part : (k p b : ℕ) → b ≤ p → (k + 1) * p - b ≡ (p - b) + k * p
whole_less_part k p b h = let e : (k + 1) * p ≡ k * p + p = grind arith in rw e (omega arith)

-- a difference that wraps at 128 bits has the same lowest w bits
pub sub_128-mod : (a b w : ℕ) → w ≤ 128 → b < 2 ^ w → (a + (2 ^ 128 - b)) % 2 ^ 128 % 2 ^ w ≡ (a + (2 ^ w - b)) % 2 ^ w
sub_128-mod a b w h l =
    let m = 2 ^ (128 - w) - 1 in
    let p = pow_pos (128 - w) in
    let q : 2 ^ (128 - w) ≡ m + 1 = omega arith in
    let e : 2 ^ 128 - b ≡ (2 ^ w - b) + m * 2 ^ w =
    ap (λ n. n - b) (pow_128 w h) ∙ ap (λ n. n * 2 ^ w - b) q ∙ whole_less_part m (2 ^ w) b (omega arith) in
    let f : a + (2 ^ 128 - b) ≡ (a + (2 ^ w - b)) + m * 2 ^ w = omega arith in
    mod_128-mod (a + (2 ^ 128 - b)) w h ∙ ap (λ n. n % 2 ^ w) f ∙ add-mul-mod_self_right (a + (2 ^ w - b)) m (2 ^ w)

pub neg_128-mod : (b w : ℕ) → w ≤ 128 → b < 2 ^ w → (0 + (2 ^ 128 - b)) % 2 ^ 128 % 2 ^ w ≡ (2 ^ w - b) % 2 ^ w
neg_128-mod b w h l = sub_128-mod 0 b w h l ∙ ap (λ n. n % 2 ^ w) (zero-add (2 ^ w - b))

-- a shift by the width or more leaves nothing
pub shl_all : (b w n : ℕ) → w ≤ n → b * 2 ^ n % 2 ^ w ≡ 0
shl_all b w n h =
    let e : (n - w) + w ≡ n = omega arith in
    let p : 2 ^ n ≡ 2 ^ (n - w) * 2 ^ w =
    subst (λ (k : ℕ). 2 ^ k ≡ 2 ^ (n - w) * 2 ^ w) e (pow-add 2 (n - w) w) in
    let q : b * 2 ^ n ≡ (b * 2 ^ (n - w)) * 2 ^ w = rw p (grind arith) in
    rw q (mul-mod_left (b * 2 ^ (n - w)) (2 ^ w))

pub shr_all : (b w n : ℕ) → b < 2 ^ w → w ≤ n → b / 2 ^ n ≡ 0
shr_all b w n h l =
    let p : 2 ^ w ≤ 2 ^ n = pow_rises w n l in
    div-eq_of_lt (omega arith)

-- what is left of w bits after a shift by n
pub shr_fits : (b w n : ℕ) → n ≤ w → b < 2 ^ w → b / 2 ^ n < 2 ^ (w - n)
shr_fits b w n h l =
    let e : (w - n) + n ≡ w = omega arith in
    shr_below b (w - n) n (subst (λ (k : ℕ). b < 2 ^ k) (sym e) l)

-- `MAX >> n` at w bits, for any n
pub ones_left : (w n : ℕ) → (2 ^ w - 1) / 2 ^ n ≡ 2 ^ (w - n) - 1
ones_left w n =
    elim (cases_lt w n) [
      | inl h ↦
          let p = pow_pos w in
          let e : w - n ≡ 0 = omega arith in
          shr_all (2 ^ w - 1) w n (omega arith) (omega arith) ∙ sym (ap (λ k. 2 ^ k - 1) e)
      | inr h ↦ ones_shr w n h
    ]

pub shr_below_width : (b w n : ℕ) → b < 2 ^ w → b / 2 ^ n < 2 ^ (w - n)
shr_below_width b w n h =
    elim (cases_lt w n) [
      | inl l ↦ let p = pow_pos (w - n) in let e = shr_all b w n h (omega arith) in omega arith
      | inr l ↦ shr_fits b w n l h
    ]

-- v bits above w bits
joined_fits : (a b v w : ℕ) → a < 2 ^ v → b < 2 ^ w → a * 2 ^ w + b < 2 ^ (v + w)
joined_fits a b v w h l =
    let e : 2 ^ (v + w) ≡ 2 ^ w * 2 ^ v = pow-add 2 v w ∙ grind arith in
    rw e (mul-add-lt a (2 ^ w) b (2 ^ v) h l)

pub joined_whole :
    (a b v w : ℕ)
    → a < 2 ^ v
    → b < 2 ^ w
    → v + w ≤ 128
    → (a * 2 ^ w % 2 ^ 128 ≡ a * 2 ^ w) × (a * 2 ^ w + b < 2 ^ (v + w)) × (a * 2 ^ w + b < 2 ^ 128)
joined_whole a b v w h l m =
    let p = joined_fits a b v w h l in
    let q : 2 ^ (v + w) ≤ 2 ^ 128 = pow_rises (v + w) 128 m in
    (shl_whole a v w 128 h m, p, omega arith)
