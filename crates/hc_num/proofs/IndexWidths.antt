-- The width of an index is the least that is enough.
use Rattle.std.proofs.Common.{◌≡◌, ℕ, zero, suc, ◌+◌, ◌*◌, ◌^◌, ◌<◌, ◌≤◌, Bool, true, false, sym, ◌∙◌, subst, arith, inl, inr}
use Rattle.std.specs.Prelude.{nat_le}
use Rattle.std.proofs.Math.Nat.{eq-or-lt_of_le}
use Rattle.std.proofs.lemmas.Bool.{cond-true, cond-false, le-leb, lt-leb, cases_lt}
use Rattle.std.proofs.lemmas.Nat.{pow-add}
use Rattle.hc_num.specs.Index.{first_from, index_width}
use Rattle.hc_num.proofs.Widths.{pow_rises}

-- the first number that passes is found where there are enough tries
first_from-is :
    (test : ℕ → Bool) (start tries found : ℕ)
    → start ≤ found
    → found ≤ start + tries
    → test found ≡ true
    → ((k : ℕ) → start ≤ k → k < found → test k ≡ false)
    → first_from test start tries ≡ found
first_from-is test start zero found l u here before = omega arith
first_from-is test start (suc tries) found l u here before =
    elim (eq-or-lt_of_le l) [
      | inl e ↦ cond-true (test start) _ _ (subst (λ (k : ℕ). test k ≡ true) (sym e) here) ∙ e
      | inr h ↦
          cond-false (test start) _ _ (before start (omega arith) h)
          ∙ first_from-is test (start + 1) tries found (omega arith) (omega arith) here (λ k a b. before k (omega arith) b)
    ]

below_pow : (k : ℕ) → k < 2 ^ k
below_pow zero = omega arith
below_pow (suc k) = let h = below_pow k in omega (arith, h)

pub index_width-small : (n : ℕ) → n ≤ 2 → 1 ≡ index_width n
unfolding index_width
index_width-small n h =
    sym (first_from-is
    (λ w. nat_le n (2 ^ w))
    1
    n
    1
    (omega arith)
    (omega arith)
    (le-leb n (2 ^ 1) (omega arith))
    (λ k a b. absurd (omega arith)))

-- where n is above 2^r and at most twice that
pub index_width-log : (n r : ℕ) → 2 ^ r < n → n ≤ 2 * 2 ^ r → r + 1 ≡ index_width n
unfolding index_width
index_width-log n r low high =
    let small = below_pow r in
    sym (first_from-is
    (λ w. nat_le n (2 ^ w))
    1
    n
    (r + 1)
    (omega arith)
    (omega arith)
    (le-leb n (2 ^ (r + 1)) (omega (arith, pow-add 2 r 1)))
    (λ k a b. let p = pow_rises k r (omega arith) in lt-leb n (2 ^ k) (omega arith)))

-- no width up to r is enough
pub no_smaller : (n r w : ℕ) → 2 ^ r < n → n ≤ 2 ^ w → r + 1 ≤ w
no_smaller n r w low enough =
    elim (cases_lt r w) [ inl h ↦ omega arith | inr h ↦ let p = pow_rises w r h in absurd (omega arith) ]
