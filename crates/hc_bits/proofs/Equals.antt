-- Two numbers are equal where no bit of them differs.
use Rattle.std.proofs.Common.{◌≡◌, ◌<◌, ◌≤◌, ℕ, ◌+◌, ◌*◌, ◌%◌, List, ◌++◌, length, Bool, true, false, not, refl, ap, sym, ◌∙◌, arith, inl, inr}
use Rattle.std.specs.Prelude.{bit_xor, ◌==◌}
use Rattle.std.specs.Int.{bit_at}
use Rattle.std.proofs.lemmas.Bool.{eq-eqb, ne_eqb, cases_eq}
use Rattle.std.proofs.lemmas.Nat.Bits.{bit_at_xor, bit_at-zero, bit_at-lt, same_from_bits}
use Rattle.hc_num.specs.Number.{Number}
use Rattle.hc_num.specs.Compare.{truth, is_equal}
use Rattle.hc_num.specs.Bits.{exclusive_or, complement}
use Rattle.hc_net.specs.Circuit.{Circuit}
use Rattle.hc_net.specs.Made.{Makes}
use Rattle.hc_net.specs.MadeLemmas.{Makes-last, Makes-holds}
use Rattle.hc_bits.specs.Held.{held}

same_bits : (a b : ℕ) → a < 2 → b < 2 → (a + b) % 2 ≡ 0 → a ≡ b
same_bits a b low high even = omega arith

same_from_xor : (a b : ℕ) → bit_xor a b ≡ 0 → a ≡ b
same_from_xor a b none =
    same_from_bits a b (λ i. same_bits (bit_at a i) (bit_at b i) (bit_at-lt a i) (bit_at-lt b i) (sym (bit_at_xor a b i) ∙ ap (λ n. bit_at n i) none ∙ bit_at-zero i))

xor_same : (a : ℕ) → bit_xor a a ≡ 0
xor_same a = same_from_bits (bit_xor a a) 0 (λ i. bit_at_xor a a i ∙ doubled (bit_at a i) ∙ sym (bit_at-zero i))
  where
    doubled : (n : ℕ) → (n + n) % 2 ≡ 0
    doubled n = omega arith

xor_tells : (a b : ℕ) → (bit_xor a b == 0) ≡ (a == b)
xor_tells a b = elim (cases_eq a b) [
  | inl same ↦ eq-eqb (bit_xor a b) 0 (ap (λ n. bit_xor a n) (sym same) ∙ xor_same a) ∙ sym (eq-eqb a b same)
  | inr other ↦ ne_eqb (bit_xor a b) 0 (λ none. other (same_from_xor a b none)) ∙ sym (ne_eqb a b other)
]

turned : (t : Bool) → complement (truth t) ≡ truth (not t)
turned true = refl
turned false = refl

not_not : (t : Bool) → not (not t) ≡ t
not_not true = refl
not_not false = refl

equal_held : (unequal some answer a b : Number) → unequal ≡ exclusive_or a b → some ≡ truth (not (unequal.bits == 0)) → answer ≡ complement some → answer ≡ truth (is_equal a b)
equal_held unequal some answer a b first second third =
    third ∙ ap complement second ∙ turned (not (unequal.bits == 0)) ∙ ap truth (not_not (unequal.bits == 0)) ∙ ap (λ (n : Number). truth (n.bits == 0)) first ∙ ap truth (xor_tells a.bits b.bits)

pub equal_made : (xs ys unequal some z : List ℕ) (old first second new : Circuit)
    → length unequal ≡ length xs → length some ≡ 1 → 1 ≤ length xs
    → Makes (length xs) (xs ++ ys) old first unequal (λ v. (s : Bool) → held s v unequal ≡ exclusive_or (held s v xs) (held s v ys))
    → Makes (length unequal) unequal first second some (λ v. (s : Bool) → held false v some ≡ truth (not ((held s v unequal).bits == 0)))
    → Makes (length some) some second new z (λ v. (s : Bool) → held s v z ≡ complement (held s v some))
    → Makes (3 * length xs) (xs ++ ys) old new z (λ v. (s : Bool) → held false v z ≡ truth (is_equal (held s v xs) (held s v ys)))
equal_made xs ys unequal some z old first second new width one least a b c =
    let tree = Makes-last a b a.reach in
    Makes-holds (Makes-last tree c tree.reach) (omega arith)
    (λ v holds s. equal_held (held s v unequal) (held false v some) (held false v z) (held s v xs) (held s v ys) (holds.0.0 s) (holds.0.1 s) (holds.1 false))
