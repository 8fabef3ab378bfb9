-- What a write of one mark changes.
use Rattle.std.proofs.Common.{◌≡◌, ◌≢◌, ◌⊎◌, ℕ, zero, suc, ◌+◌, List, [], ◌∷◌, Some, set, refl, ap, inl, inr, arith}
use Rattle.std.specs.Prelude.{slice_get}
use Rattle.hc_graph.specs.declared.search.Mark.{Mark}
use Rattle.hc_graph.specs.declared.search.Mark.TheVariants.{New, Open, Passed}
use Rattle.hc_graph.specs.Search.{new_marks}

pub get_set_same : {X : Type 0} (xs : List X) (k : ℕ) (x y : X) → slice_get xs k ≡ Some y → slice_get (set xs k x) k ≡ Some x
get_set_same [] k x y e = absurd cc
get_set_same (a ∷ xs) zero x y e = refl
get_set_same (a ∷ xs) (suc k) x y e = get_set_same xs k x y e

pub get_set_cases : {X : Type 0} (xs : List X) (k j : ℕ) (x y : X) → slice_get (set xs k x) j ≡ Some y → ((j ≡ k) × (x ≡ y)) ⊎ ((j ≢ k) × (slice_get xs j ≡ Some y))
get_set_cases [] k j x y e = absurd cc
get_set_cases (a ∷ xs) zero zero x y e = inl (refl, cc)
get_set_cases (a ∷ xs) zero (suc j) x y e = inr (omega arith, e)
get_set_cases (a ∷ xs) (suc k) zero x y e = inr (omega arith, e)
get_set_cases (a ∷ xs) (suc k) (suc j) x y e = elim (get_set_cases xs k j x y e) [
  | inl same ↦ inl (ap suc same.0, same.1)
  | inr other ↦ inr (let ne = other.0 in omega arith, other.1)
]

pub get_set_other : {X : Type 0} (xs : List X) (k j : ℕ) (x : X) → j ≢ k → slice_get (set xs k x) j ≡ slice_get xs j
get_set_other [] k j x ne = refl
get_set_other (a ∷ xs) zero zero x ne = absurd (ne refl)
get_set_other (a ∷ xs) zero (suc j) x ne = refl
get_set_other (a ∷ xs) (suc k) zero x ne = refl
get_set_other (a ∷ xs) (suc k) (suc j) x ne = get_set_other xs k j x (λ e. ne (ap suc e))

-- a new node is met
pub one_less : (marks : List Mark) (k : ℕ) → slice_get marks k ≡ Some New → new_marks (set marks k Open) + 1 ≡ new_marks marks
one_less [] k e = absurd cc
one_less (New ∷ marks) zero e = omega arith
one_less (Open ∷ marks) zero e = absurd cc
one_less (Passed r ∷ marks) zero e = absurd cc
one_less (New ∷ marks) (suc k) e = let rest = one_less marks k e in omega arith
one_less (Open ∷ marks) (suc k) e = one_less marks k e
one_less (Passed r ∷ marks) (suc k) e = one_less marks k e

-- an open node is passed
pub as_many : (marks : List Mark) (k r : ℕ) → slice_get marks k ≡ Some Open → new_marks (set marks k (Passed r)) ≡ new_marks marks
as_many [] k r e = absurd cc
as_many (New ∷ marks) zero r e = absurd cc
as_many (Open ∷ marks) zero r e = refl
as_many (Passed q ∷ marks) zero r e = absurd cc
as_many (New ∷ marks) (suc k) r e = let rest = as_many marks k r e in omega arith
as_many (Open ∷ marks) (suc k) r e = as_many marks k r e
as_many (Passed q ∷ marks) (suc k) r e = as_many marks k r e
