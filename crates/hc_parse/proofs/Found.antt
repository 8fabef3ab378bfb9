-- The first element of a list that a test finds.
use Rattle.std.proofs.Common.{◌≡◌, ℕ, ◌≤◌, Bool, true, false, List, [], ◌∷◌, length, drop, Some, None, refl, ap}
use Rattle.std.specs.List.{find, All}
use Rattle.std.proofs.lemmas.List.{drop_all}
use Rattle.std.proofs.lemmas.List.Elements.{All-nil, All-cons, All-head, All-tail}

none-more : {A : Type 0} (p : A → Bool) (x : A) (xs : List A) (b : Bool) → p x ≡ b → find p (x ∷ xs) ≡ None → (find p xs ≡ None → All (λ x. p x ≡ false) xs) → All (λ x. p x ≡ false) (x ∷ xs)
none-more p x xs true e h more = let s : Some x ≡ None = rw e at h in absurd (let z : ⊥ = cc in z)
none-more p x xs false e h more = All-cons (λ x. p x ≡ false) x xs e (more (rw e at h))

-- where nothing is found, no element passes
pub none-passes : {A : Type 0} (p : A → Bool) (xs : List A) → find p xs ≡ None → All (λ x. p x ≡ false) xs
none-passes p [] h = All-nil (λ x. p x ≡ false)
none-passes p (x ∷ xs) h = none-more p x xs (p x) refl h (none-passes p xs)

-- where no element passes, nothing is found
pub none-found : {A : Type 0} (p : A → Bool) (xs : List A) → All (λ x. p x ≡ false) xs → find p xs ≡ None
none-found p [] h = refl
none-found p (x ∷ xs) h = rw (All-head (λ x. p x ≡ false) x xs h) (none-found p xs (All-tail (λ x. p x ≡ false) x xs h))

-- behind the end nothing is found
pub found-end : {A : Type 0} (p : A → Bool) (xs : List A) (i : ℕ) → length xs ≤ i → find p (drop i xs) ≡ None
found-end p xs i h = ap (find p) (drop_all i xs h)
