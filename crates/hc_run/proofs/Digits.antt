-- Digits one after the other.
use Rattle.std.specs.Prelude.{◌≡◌, ◌-◌, ◌<◌, ◌++◌, ◌∷◌, [], ℕ, zero, suc, List, Bool}
use Rattle.std.proofs.Common.{sym, ◌∙◌, ap, arith}
use Rattle.hc_run.specs.Edif.{digit_of, digits_of}

-- the highest of i digits, and those below it
pub digits_more : (bits : List Bool) (i d : ℕ) → 0 < i → d ≡ digit_of bits (i - 1) → digits_of bits i ≡ (d ∷ []) ++ digits_of bits (i - 1)
digits_more bits zero d some is = absurd (omega arith)
digits_more bits (suc i) d some is =
    let same : suc i - 1 ≡ i = omega arith in
    ap (λ k. digit_of bits k ∷ digits_of bits k) (sym same) ∙ ap (λ x. x ∷ digits_of bits (suc i - 1)) (sym is)
