-- Labels that are met one after the other: one of them is met again exactly where two of them are equal.
use Rattle.std.proofs.Common.{◌≡◌, ℕ, ◌<◌, Bool, true, false, ◌||◌, ◌==◌, List, [], ◌∷◌, ◌++◌, length, refl, sym, ap, ◌∙◌}
use Rattle.std.proofs.lemmas.List.Folds.{list_any-append}
use Rattle.std.specs.List.{list_any}
use Rattle.hc_num.specs.Number.{Number}
use Rattle.hc_core.specs.Read.{arms}
use Rattle.hc_core.specs.declared.stmt.Arm.{Arm}
use Rattle.hc_core.proofs.Listing.{is_empty}
use Rattle.hc_core.proofs.Read.{read_no_arm}
use Rattle.hc_core.specs.Rules.{labels, is_among, has_twice}
use Rattle.hc_rules.specs.Labels.{meets}
use Rattle.hc_rules.proofs.Places.{arms_are}

-- whether one of the labels has bits that were seen
abbrev some_seen : List ℕ → List Number → Bool
some_seen seen [] = false
some_seen seen (n ∷ rest) = list_any (λ bits. n.bits == bits) seen || some_seen seen rest

pushed : (a e m i : Bool) → ((a || (e || false)) || (m || i)) ≡ ((a || m) || (e || i))
pushed true e m i = refl
pushed false true true i = refl
pushed false true false i = refl
pushed false false true i = refl
pushed false false false i = refl

-- with one more that was seen
seen_more : (seen : List ℕ) (n : Number) (ns : List Number) → some_seen (seen ++ n.bits ∷ []) ns ≡ (some_seen seen ns || is_among n ns)
seen_more seen n [] = refl
seen_more seen n (m ∷ rest) =
    ap (λ b. b || some_seen (seen ++ n.bits ∷ []) rest) (list_any-append (λ bits. m.bits == bits) seen (n.bits ∷ []))
    ∙ ap (λ b. (list_any (λ bits. m.bits == bits) seen || ((m.bits == n.bits) || false)) || b) (seen_more seen n rest)
    ∙ pushed (list_any (λ bits. m.bits == bits) seen) (m.bits == n.bits) (some_seen seen rest) (is_among n rest)

moved : (a m i t : Bool) → (a || ((m || i) || t)) ≡ ((a || m) || (i || t))
moved true m i t = refl
moved false true i t = refl
moved false false i t = refl

meets_is : (seen : List ℕ) (ns : List Number) → meets seen ns ≡ (some_seen seen ns || has_twice ns)
meets_is seen [] = refl
meets_is seen (n ∷ rest) =
    ap (λ b. list_any (λ bits. n.bits == bits) seen || b) (meets_is (seen ++ n.bits ∷ []) rest ∙ ap (λ b. b || has_twice rest) (seen_more seen n rest))
    ∙ moved (list_any (λ bits. n.bits == bits) seen) (some_seen seen rest) (is_among n rest) (has_twice rest)

none_seen : (ns : List Number) → some_seen [] ns ≡ false
none_seen [] = refl
none_seen (n ∷ rest) = none_seen rest

-- where none was seen before
pub meets_none : (ns : List Number) → meets [] ns ≡ has_twice ns
meets_none ns = meets_is [] ns ∙ ap (λ b. b || has_twice ns) (none_seen ns)

-- ---- the loop over the arms of a `switch`

module _ (all : List Arm) (seen new : List ℕ) (rest behind : List Arm) (first : Arm) (values : List Number) (twice : Bool) (is : rest ≡ first ∷ behind) (values_are : values ≡ first.values)
    (kept : meets [] (labels (arms all)) ≡ meets seen (labels (arms rest))) (noted : (more : List Number) → meets seen (values ++ more) ≡ (twice || meets new more)) where
  with_first : meets [] (labels (arms all)) ≡ (twice || meets new (labels (arms behind)))
  with_first =
      kept ∙ ap (λ l. meets seen (labels l)) (arms_are rest behind first is) ∙ ap (λ v. meets seen (v ++ labels (arms behind))) (sym values_are) ∙ noted (labels (arms behind))

  pub met_again : twice ≡ true → true ≡ has_twice (labels (arms all))
  met_again again = sym (sym (meets_none (labels (arms all))) ∙ with_first ∙ ap (λ b. b || meets new (labels (arms behind))) again)

  pub not_met : twice ≡ false → meets [] (labels (arms all)) ≡ meets new (labels (arms behind))
  not_met none = with_first ∙ ap (λ b. b || meets new (labels (arms behind))) none

pub all_met : (all : List Arm) (seen : List ℕ) (rest : List Arm) → length rest < 1 → meets [] (labels (arms all)) ≡ meets seen (labels (arms rest)) → false ≡ has_twice (labels (arms all))
all_met all seen rest few kept = sym (sym (meets_none (labels (arms all))) ∙ kept ∙ ap (λ l. meets seen (labels l)) (ap arms (is_empty rest few) ∙ read_no_arm))
