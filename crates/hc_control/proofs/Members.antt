-- Lists of conditions with the same members, and what is asked in a clock in two parts.
use Rattle.std.proofs.Common.{◌≡◌, ◌<◌, ◌⊎◌, inl, inr, ⊎_elim, ℕ, zero, suc, List, [], ◌∷◌, ◌++◌, Contains, Bool, true, false, ◌&&◌, ◌||◌, if◌then◌else◌, eqb, Option, Some, None, refl, subst, arith}
use Rattle.std.proofs.lemmas.List.Elements.{Contains-append_left, Contains-append_right, Contains-append_cases}
use Rattle.std.proofs.lemmas.Bool.{eqb-true}
use Rattle.hc_meaning.specs.Residual.{Residual}
use Rattle.hc_meaning.specs.Value.{World}
use Rattle.hc_meaning.specs.Control.{evaluated, Condition}
use Rattle.hc_control.specs.Token.{asked, SameMembers}
use Rattle.hc_control.proofs.Steps.{both_first, both_second}

pub same_refl : (xs : List Condition) → SameMembers xs xs
same_refl xs = record { forth = λ x h. h; back = λ x h. h }

pub same_trans : {xs ys zs : List Condition} → SameMembers xs ys → SameMembers ys zs → SameMembers xs zs
same_trans f g = record { forth = λ x h. g.forth x (f.forth x h); back = λ x h. f.back x (g.back x h) }

among_both : (xs ys us vs : List Condition) (x : Condition) → (Contains xs x → Contains ys x) → (Contains us x → Contains vs x) → Contains (xs ++ us) x → Contains (ys ++ vs) x
among_both xs ys us vs x f g h =
    ⊎_elim (λ i. Contains-append_left ys vs x (f i)) (λ i. Contains-append_right ys vs x (g i)) (Contains-append_cases xs us x h)

pub same_append : {xs ys us vs : List Condition} → SameMembers xs ys → SameMembers us vs → SameMembers (xs ++ us) (ys ++ vs)
same_append {xs} {ys} {us} {vs} f g = record {
  forth = λ x. among_both xs ys us vs x (f.forth x) (g.forth x);
  back = λ x. among_both ys xs vs us x (f.back x) (g.back x);
}

-- ---- sums of lists

-- lists one behind the other, by their places in a list of lists
pub data Sum : Type 0 where
  empty : Sum
  at : ℕ → Sum
  plus : Sum → Sum → Sum

abbrev pub at_place : List (List Condition) → ℕ → List Condition
at_place [] i = []
at_place (xs ∷ rest) zero = xs
at_place (xs ∷ rest) (suc i) = at_place rest i

abbrev pub summed : List (List Condition) → Sum → List Condition
summed parts empty = []
summed parts (at i) = at_place parts i
summed parts (plus a b) = summed parts a ++ summed parts b

abbrev pub has : ℕ → Sum → Bool
has i empty = false
has i (at j) = eqb i j
has i (plus a b) = has i a || has i b

-- each list of one sum is in the other
abbrev pub is_within : Sum → Sum → Bool
is_within empty r = true
is_within (at i) r = has i r
is_within (plus a b) r = is_within a r && is_within b r

one_of : (a b : Bool) → (a || b) ≡ true → (a ≡ true) ⊎ (b ≡ true)
one_of true b h = inl refl
one_of false b h = inr h

among_sum : (parts : List (List Condition)) (i : ℕ) (r : Sum) → has i r ≡ true → (x : Condition) → Contains (at_place parts i) x → Contains (summed parts r) x
among_sum parts i empty is x h = absurd cc
among_sum parts i (at j) is x h = subst (λ k. Contains (at_place parts k) x) (eqb-true i j is) h
among_sum parts i (plus a b) is x h =
    ⊎_elim (λ p. Contains-append_left (summed parts a) (summed parts b) x (among_sum parts i a p x h))
    (λ p. Contains-append_right (summed parts a) (summed parts b) x (among_sum parts i b p x h)) (one_of (has i a) (has i b) is)

empty_among : (x : Condition) (P : Type 0) → Contains [] x → P
empty_among x P h = let lt : h.0 < 0 = h.1 in absurd (omega arith)

sum_among : (parts : List (List Condition)) (l r : Sum) → is_within l r ≡ true → (x : Condition) → Contains (summed parts l) x → Contains (summed parts r) x
sum_among parts empty r is x h = empty_among x (Contains (summed parts r) x) h
sum_among parts (at i) r is x h = among_sum parts i r is x h
sum_among parts (plus a b) r is x h =
    ⊎_elim (sum_among parts a r (both_first (is_within a r) (is_within b r) is) x) (sum_among parts b r (both_second (is_within a r) (is_within b r) is) x)
    (Contains-append_cases (summed parts a) (summed parts b) x h)

-- sums of the same lists
pub same_by : (parts : List (List Condition)) (l r : Sum) → is_within l r ≡ true → is_within r l ≡ true → SameMembers (summed parts l) (summed parts r)
same_by parts l r forth back = record { forth = sum_among parts l r forth; back = sum_among parts r l back }

-- ---- what is asked

-- what the rest of a statement asks
abbrev pub rest_asked : World → Option Residual → List Condition
rest_asked w None = []
rest_asked w (Some r) = evaluated w r

pub asked_is : (w : World) (s : Residual) (start : Bool) (held : Option Residual) → asked w s start held ≡ rest_asked w held ++ (if start then evaluated w s else [])
asked_is w s start None = refl
asked_is w s start (Some r) = refl
