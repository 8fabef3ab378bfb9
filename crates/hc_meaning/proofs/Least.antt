-- The least object that is used twice is one of those that are, and none of them is less.
use Rattle.std.proofs.Common.{◌≡◌, ◌≤◌, ℕ, suc, List, [], ◌∷◌, Bool, true, false, Option, Some, None, refl, subst, arith}
use Rattle.std.specs.Prelude.{nat_lt, if◌then◌else◌, All}
use Rattle.std.specs.List.{Contains}
use Rattle.std.proofs.lemmas.List.Elements.{All-cons}
use Rattle.std.proofs.lemmas.Bool.{ltb-true, ltb-false}
use Rattle.hc_core.specs.Rules.{least, lesser}
use Rattle.hc_meaning.specs.Value.{World}
use Rattle.hc_meaning.specs.Control.{Condition, Leaf}
use Rattle.hc_meaning.specs.Twice.{used_twice, all_used_twice}

-- a number is among others, and none of them is less
abbrev Least : ℕ → List ℕ → Type 0
Least k xs = Contains xs k × All (λ j. k ≤ j) xs

some_is : (a b : ℕ) → Some a ≡ Some b → a ≡ b
some_is a b h = cc

behind : (x k : ℕ) (xs : List ℕ) → Contains xs k → Contains (x ∷ xs) k
behind x k xs h = (suc h.0, omega (arith, h.1), h.2)

alone : (x : ℕ) (xs : List ℕ) → xs ≡ [] → Least x (x ∷ xs)
alone x xs e = rw e ((0, omega arith, refl), All-cons (λ j. x ≤ j) x [] (omega arith) (λ i d within. absurd (omega arith)))

least_is : (xs : List ℕ) (k : ℕ) → least xs ≡ Some k → Least k xs
least_is [] k h = absurd cc
least_is (x ∷ xs) k h = by (least xs) refl h (least_is xs)
  where
    none : (ys : List ℕ) → least ys ≡ None → ys ≡ []
    none [] e = refl
    none (y ∷ ys) e = absurd cc

    of : (j : ℕ) (b : Bool) → nat_lt j x ≡ b → Some (if b then j else x) ≡ Some k → Least j xs → Least k (x ∷ xs)
    of j true e g l =
        let low = ltb-true j x e in
        subst (λ n. Least n (x ∷ xs)) (some_is j k g) (behind x j xs l.0, All-cons (λ i. j ≤ i) x xs (omega (arith, low)) l.1)
    of j false e g l =
        let high = ltb-false j x e in
        subst (λ n. Least n (x ∷ xs)) (some_is x k g)
        ((0, omega arith, refl), All-cons (λ i. x ≤ i) x xs (omega arith) (λ i d within. let y = l.1 i d within in omega (arith, high, y)))

    by : (o : Option ℕ) → least xs ≡ o → Some (lesser x o) ≡ Some k → ((j : ℕ) → least xs ≡ Some j → Least j xs) → Least k (x ∷ xs)
    by None e g next = subst (λ n. Least n (x ∷ xs)) (some_is x k g) (alone x xs (none xs e))
    by (Some j) e g next = of j (nat_lt j x) refl g (next j e)

pub least_of : (w : World) (front : List Leaf) (conditions : List Condition) (k : ℕ) → used_twice w front conditions ≡ Some k
    → Contains (all_used_twice w front conditions) k × All (λ j. k ≤ j) (all_used_twice w front conditions)
least_of w front conditions k h = least_is (all_used_twice w front conditions) k h
