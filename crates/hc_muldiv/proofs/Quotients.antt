-- Long division over plain numbers.
use Rattle.std.proofs.Common.{◌≡◌, ℕ, zero, suc, ◌+◌, ◌-◌, ◌*◌, ◌/◌, ◌%◌, ◌^◌, ◌<◌, ◌≤◌, ◌==◌, Bool, true, false, not, if◌then◌else◌, refl, ap, sym, ◌∙◌, arith, inl, inr}
use Rattle.std.proofs.Math.Nat.{add-mul-mod_self_right, mod-eq_of_lt, pow-suc, pow-le-pow_right}
use Rattle.std.proofs.lemmas.Bool.{cases_lt, ne_eqb}
use Rattle.std.proofs.lemmas.Nat.{pow_pos, div-mul-add, mod-mul-add, mul-le}
use Rattle.hc_muldiv.specs.Division.{Steps, Divides}

pow_more : (k : ℕ) → 2 ^ (k + 1) ≡ 2 ^ k * 2
pow_more k = ap (λ i. 2 ^ i) (omega arith) ∙ pow-suc 2 k

-- what a difference of w + 1 bits is where both numbers are near
difference_goes : (w d n : ℕ) → d < 2 ^ w → d ≤ n → n < d + 2 ^ w → (n + (2 ^ (w + 1) - d)) % 2 ^ (w + 1) ≡ n - d
difference_goes w d n fits goes near =
    let p = pow_more w in
    let e : n + (2 ^ (w + 1) - d) ≡ (n - d) + 1 * 2 ^ (w + 1) = omega arith in
    ap (λ k. k % 2 ^ (w + 1)) e ∙ add-mul-mod_self_right (n - d) 1 (2 ^ (w + 1)) ∙ mod-eq_of_lt (omega arith)

difference_stays : (w d n : ℕ) → d < 2 ^ w → n < d → (n + (2 ^ (w + 1) - d)) % 2 ^ (w + 1) ≡ n + (2 ^ (w + 1) - d)
difference_stays w d n fits stays = let p = pow_more w in mod-eq_of_lt (omega arith)

-- a step, from the difference with its borrow on top
pub step_of : (w d n less low kept after : ℕ) (borrow : Bool) → less ≡ (n + (2 ^ (w + 1) - d)) % 2 ^ (w + 1)
    → less ≡ (if borrow then 1 else 0) * 2 ^ w + low → low < 2 ^ w → kept ≡ n % 2 ^ w
    → after ≡ (if borrow then kept else low) → d < 2 ^ w → n < d + 2 ^ w → Steps d n (not borrow) after
step_of w d n less low kept after true is split within is_kept is_after fits near = record {
  goes = λ goes. let e = difference_goes w d n fits goes near in absurd (omega arith);
  stays = λ stays. let e : n % 2 ^ w ≡ n = mod-eq_of_lt (omega arith) in (refl, omega arith);
}
step_of w d n less low kept after false is split within is_kept is_after fits near = record {
  goes = λ goes. let e = difference_goes w d n fits goes near in (refl, omega arith);
  stays = λ stays. let e = difference_stays w d n fits stays in let p = pow_more w in absurd (omega arith);
}

-- before the first bit
pub Divides-none : (d : ℕ) → Divides 0 0 d 0 0
Divides-none d = record { by_zero = λ is. (refl, refl); by_more = λ some. (omega arith, some) }

-- what is left with the next bit below it is near the divisor
pub near_divisor : (w k n d quotient left b : ℕ) → k < w → b ≤ 1 → n < 2 ^ k → d < 2 ^ w → Divides k n d quotient left → b + 2 * left < d + 2 ^ w
near_divisor w k n d quotient left b below one within fits divides = elim (cases_lt 0 d) [
  | inl some ↦ let e = (divides.by_more some).1 in omega arith
  | inr none ↦
      let e = (divides.by_zero (omega arith)).1 in
      let p = pow_more k in
      let q : 2 ^ (k + 1) ≤ 2 ^ w = pow-le-pow_right {n = 2} (omega arith) (omega arith) in
      omega arith
]

-- the next bit
one_more : (n d q left b bit before after : ℕ) → n ≡ q * d + left → before ≡ b + 2 * left → bit ≡ 1 → before ≡ d + after
    → b + 2 * n ≡ (bit + 2 * q) * d + after
one_more n d q left b bit before after is is_before is_bit goes =
    let e : (1 + 2 * q) * d ≡ d + 2 * (q * d) = grind arith in
    rw is_bit (omega (arith, e))

none_more : (n d q left b bit before after : ℕ) → n ≡ q * d + left → before ≡ b + 2 * left → bit ≡ 0 → after ≡ before
    → b + 2 * n ≡ (bit + 2 * q) * d + after
none_more n d q left b bit before after is is_before is_bit stays =
    let e : (0 + 2 * q) * d ≡ 2 * (q * d) = grind arith in
    rw is_bit (omega (arith, e))

one_of : (b : Bool) → b ≡ true → ◌≡◌ {A = ℕ} (if b then 1 else 0) 1
one_of true is = refl
one_of false is = absurd cc

none_of : (b : Bool) → b ≡ false → ◌≡◌ {A = ℕ} (if b then 1 else 0) 0
none_of true is = absurd cc
none_of false is = refl

pub Divides-more : (k n d q left b after : ℕ) (bit : Bool) → b ≤ 1 → Divides k n d q left → Steps d (b + 2 * left) bit after
    → Divides (k + 1) (b + 2 * n) d ((if bit then 1 else 0) + 2 * q) after
Divides-more k n d q left b after bit one divides steps = record {
  by_zero = λ is.
      let was = divides.by_zero is in
      let went = steps.goes (omega arith) in
      let set = one_of bit went.0 in
      let p = pow_more k in
      let positive = pow_pos k in
      (omega arith, omega arith);
  by_more = λ some.
      let was = divides.by_more some in
      elim (cases_lt (b + 2 * left) d) [
        | inl less ↦
            let stayed = steps.stays less in
            let clear = none_of bit stayed.0 in
            (none_more n d q left b _ (b + 2 * left) after was.0 refl clear stayed.1, omega arith)
        | inr more ↦
            let went = steps.goes more in
            let set = one_of bit went.0 in
            (one_more n d q left b _ (b + 2 * left) after was.0 refl set went.1, omega arith)
      ];
}

-- the quotient and the remainder of a number of all its bits
pub quotient_is : (w n d q left : ℕ) → Divides w n d q left → q ≡ (if d == 0 then 2 ^ w - 1 else n / d)
quotient_is w n zero q left divides = (divides.by_zero refl).0
quotient_is w n (suc d) q left divides =
    let was = divides.by_more (omega arith) in
    let more : (suc d == 0) ≡ false = ne_eqb (suc d) 0 (λ is. omega arith) in
    let e : n / suc d ≡ q = ap (λ k. k / suc d) was.0 ∙ div-mul-add q (suc d) left was.1 in
    sym (ap (λ (c : Bool). if c then 2 ^ w - 1 else n / suc d) more ∙ e)

pub remainder_is : (w n d q left : ℕ) → Divides w n d q left → left ≡ (if d == 0 then n else n % d)
remainder_is w n zero q left divides = (divides.by_zero refl).1
remainder_is w n (suc d) q left divides =
    let was = divides.by_more (omega arith) in
    let more : (suc d == 0) ≡ false = ne_eqb (suc d) 0 (λ is. omega arith) in
    let e : n % suc d ≡ left = ap (λ k. k % suc d) was.0 ∙ mod-mul-add q (suc d) left was.1 in
    sym (ap (λ (c : Bool). if c then n else n % suc d) more ∙ e)

-- ---- gates

pub step_gates : (i w : ℕ) → 1 + i * (11 * w + 10) + (11 * w + 10) ≡ 1 + (i + 1) * (11 * w + 10)
step_gates i w = let e : (i + 1) * (11 * w + 10) ≡ i * (11 * w + 10) + (11 * w + 10) = grind arith in omega (arith, e)

-- a step more within all of them
pub steps_room : (i w : ℕ) → i < w → 1 + i * (11 * w + 10) + (11 * w + 10) ≤ 1 + w * (11 * w + 10)
steps_room i w within = let e = step_gates i w in let m = mul-le (i + 1) (11 * w + 10) w (11 * w + 10) (omega arith) (omega arith) in omega (arith, e, m)

pub division_gates : (w : ℕ) → 1 ≤ w → 1 + w * (11 * w + 10) ≤ 16 * (w * w) + 24 * w
division_gates w some = let e : w * (11 * w + 10) ≡ 11 * (w * w) + 10 * w = grind arith in omega (arith, e)
