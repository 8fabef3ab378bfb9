-- The number that nets hold, by its width and its bits, and answers of one bit.
use Rattle.std.proofs.Common.{◌≡◌, ℕ, List, [], ◌∷◌, length, map, get_or, Bool, true, false, not, ◌&&◌, ◌||◌, if◌then◌else◌, refl, ap, sym, ◌∙◌, arith}
use Rattle.hc_num.specs.Number.{Number}
use Rattle.hc_num.specs.Bits.{conjunction, disjunction, complement}
use Rattle.hc_num.specs.Compare.{truth}
use Rattle.hc_net.specs.Bits.{number}
use Rattle.hc_bits.specs.Held.{held}

abbrev pub number_with : Bool → ℕ → ℕ → Number
number_with s width bits = record { width = width; signed = s; bits = bits }

-- nets of this width and with these bits hold this number
pub held_as : (s t : Bool) (v : ℕ → Bool) (z : List ℕ) (w n : ℕ) → s ≡ t → length z ≡ w → number (map v z) ≡ n → held s v z ≡ number_with t w n
held_as s t v z w n same width bits =
    ap (λ b. number_with b (length z) (number (map v z))) same ∙ ap (λ k. number_with t k (number (map v z))) width ∙ ap (λ k. number_with t w k) bits

-- ---- answers

pub turned : (t : Bool) → complement (truth t) ≡ truth (not t)
turned true = refl
turned false = refl

pub both_true : (s t : Bool) → conjunction (truth s) (truth t) ≡ truth (s && t)
both_true true true = refl
both_true true false = refl
both_true false true = refl
both_true false false = refl

pub either_true : (s t : Bool) → disjunction (truth s) (truth t) ≡ truth (s || t)
either_true true true = refl
either_true true false = refl
either_true false true = refl
either_true false false = refl

one_bit : (a t : Bool) → number (a ∷ []) ≡ (if t then 1 else 0) → a ≡ t
one_bit true true e = refl
one_bit true false e = absurd (omega (arith, e))
one_bit false true e = absurd (omega (arith, e))
one_bit false false e = refl

-- the only net of an answer
pub bit_is : (v : ℕ → Bool) (p : List ℕ) (net : ℕ) (t : Bool) → length p ≡ 1 → net ≡ get_or p 0 0 → held false v p ≡ truth t → v net ≡ t
bit_is v [] net t one is e = absurd (omega (arith, one))
bit_is v (k ∷ []) net t one is e = ap v is ∙ one_bit (v k) t (ap (λ r. r.bits) e)
bit_is v (k ∷ l ∷ p) net t one is e = absurd (omega (arith, one))

-- what one bit chooses of two numbers of one width
pub chosen_is : (s : Bool) (v : ℕ → Bool) (c : Bool) (x y z : List ℕ) → length z ≡ length x → length y ≡ length x → map v z ≡ (if c then map v x else map v y)
    → held s v z ≡ (if c then held s v x else held s v y)
chosen_is s v true x y z width same is = held_as s s v z (length x) (number (map v x)) refl width (ap number is)
chosen_is s v false x y z width same is = held_as s s v z (length y) (number (map v y)) refl (width ∙ sym same) (ap number is)
