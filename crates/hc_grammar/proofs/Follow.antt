-- What may stand directly behind a form, as a list of kinds or as all but a list.
use Rattle.std.proofs.Common.{◌≡◌, ◌≢◌, ◌==◌, ◌⊎◌, inl, inr, Bool, true, false, not, ◌&&◌, ◌||◌, List, [], ◌∷◌, Option, Some, None, refl, sym, subst, ⊎_elim, ap}
use Rattle.std.proofs.lemmas.Bool.{eqb-true, eqb-false, eq-eqb}
use Rattle.hc_grammar.specs.declared.kind.Kind.{Kind}
use Rattle.hc_grammar.specs.Order.{number}
use Rattle.hc_grammar.specs.LastTable.{and-left, and-right}
use Rattle.hc_grammar.proofs.Same.{same}

abbrev pub is_kind : (a b : Kind) (t : Bool) → (number a == number b) ≡ t → (a ≡ b) ⊎ (a ≢ b)
is_kind a b true e = inl (same a b (eqb-true _ _ e))
is_kind a b false e = inr (λ s. eqb-false _ _ e (ap number s))

abbrev pub decide : (a b : Kind) → (a ≡ b) ⊎ (a ≢ b)
decide a b = is_kind a b (number a == number b) refl

-- ---- sets of kinds

pub data Follow : Type 0 where
  only : List Kind → Follow
  all_but : List Kind → Follow

abbrev pub member : List Kind → Kind → Bool
member [] k = false
member (x ∷ xs) k = (number k == number x) || member xs k

-- the end may always stand there
abbrev pub allows : Follow → Option Kind → Bool
allows s None = true
allows (only xs) (Some k) = member xs k
allows (all_but xs) (Some k) = not (member xs k)

-- ---- one set within another

abbrev pub all_in : List Kind → List Kind → Bool
all_in [] ys = true
all_in (x ∷ xs) ys = member ys x && all_in xs ys

abbrev pub none_in : List Kind → List Kind → Bool
none_in [] ys = true
none_in (x ∷ xs) ys = not (member ys x) && none_in xs ys

abbrev pub within : Follow → Follow → Bool
within (only xs) (only ys) = all_in xs ys
within (only xs) (all_but ys) = none_in xs ys
within (all_but xs) (all_but ys) = all_in ys xs
within (all_but xs) (only ys) = false

as-kind : (ys : List Kind) (k x : Kind) → (number k == number x) ≡ true → member ys x ≡ true → member ys k ≡ true
as-kind ys k x e there = subst (λ k. member ys k ≡ true) (same x k (sym (eqb-true (number k) (number x) e))) there

apart : {a : Bool} → a ≡ true → a ≡ false → ⊥
apart p q = absurd cc

or-is : (a b : Bool) → a || b ≡ true → (a ≡ true) ⊎ (b ≡ true)
or-is true b e = inl refl
or-is false b e = inr e

flip : (a : Bool) → not a ≡ true → a ≡ false
flip true e = absurd cc
flip false e = refl

flop : (a : Bool) → a ≡ false → not a ≡ true
flop true e = absurd cc
flop false e = refl

in-all : (xs ys : List Kind) (k : Kind) → all_in xs ys ≡ true → member xs k ≡ true → member ys k ≡ true
in-all [] ys k whole there = absurd cc
in-all (x ∷ xs) ys k whole there =
    ⊎_elim
    (λ here. as-kind ys k x here (and-left (member ys x) (all_in xs ys) whole))
    (λ later. in-all xs ys k (and-right (member ys x) (all_in xs ys) whole) later)
    (or-is (number k == number x) (member xs k) there)

not-member : (ys : List Kind) (k x : Kind) → (number k == number x) ≡ true → member ys x ≡ false → (t : Bool) → member ys k ≡ t → t ≡ false
not-member ys k x e other true is = absurd (apart (as-kind ys x k (eq-eqb (number x) (number k) (sym (eqb-true (number k) (number x) e))) is) other)
not-member ys k x e other false is = refl

in-none : (xs ys : List Kind) (k : Kind) → none_in xs ys ≡ true → member xs k ≡ true → member ys k ≡ false
in-none [] ys k whole there = absurd cc
in-none (x ∷ xs) ys k whole there =
    ⊎_elim
    (λ here. not-member ys k x here (flip (member ys x) (and-left (not (member ys x)) (none_in xs ys) whole)) (member ys k) refl)
    (λ later. in-none xs ys k (and-right (not (member ys x)) (none_in xs ys) whole) later)
    (or-is (number k == number x) (member xs k) there)

out-of : (xs ys : List Kind) (k : Kind) → all_in ys xs ≡ true → member xs k ≡ false → (t : Bool) → member ys k ≡ t → t ≡ false
out-of xs ys k whole other true is = absurd (apart (in-all ys xs k whole is) other)
out-of xs ys k whole other false is = refl

pub within-allows : (s u : Follow) → within s u ≡ true → (o : Option Kind) → allows s o ≡ true → allows u o ≡ true
within-allows s u whole None there = refl
within-allows (only xs) (only ys) whole (Some k) there = in-all xs ys k whole there
within-allows (only xs) (all_but ys) whole (Some k) there = flop (member ys k) (in-none xs ys k whole there)
within-allows (all_but xs) (all_but ys) whole (Some k) there =
    flop (member ys k) (out-of xs ys k whole (flip (member xs k) there) (member ys k) refl)
within-allows (all_but xs) (only ys) whole (Some k) there = absurd cc
