-- Lists that are expanded part by part: the first step and the last.
use Rattle.std.proofs.Common.{◌≡◌, List, [], ◌∷◌, ◌++◌, Err, ◌≤◌, length, drop, get_or, arith, refl, sym, ap, ◌∙◌, append_assoc}
use Rattle.std.proofs.lemmas.List.{append-nil}
use Rattle.hc_tree.specs.declared.refusal.Refusal.{Refusal}
use Rattle.hc_scope.specs.declared.state.State.{State}
use Rattle.hc_scope.specs.Expansion.{Outcome, Yields, Refuses, Expansion, and_then, pure, each}
use Rattle.hc_tree.specs.declared.refusal.FrontErr.{FrontErr}
use Rattle.hc_tree.specs.declared.refusal.FrontErr.TheVariants.{Refused, NoMemory}
use Rattle.hc_scope.specs.Lists.{behind, Continues}
use Rattle.hc_scope.specs.Reading.{Answers}

pub nothing_before : {B : Type 0} (o : Outcome (List B)) → and_then o (λ more. pure ([] ++ more)) ≡ o
nothing_before (Yields bs s) = refl
nothing_before (Refuses r) = refl

-- behind nothing stands the whole list
pub behind_none : {A B : Type 0} (f : A → Expansion B) (xs : List A) (s : State) → behind f [] xs s ≡ each f xs s
behind_none f xs s = nothing_before (each f xs s)

-- behind all of them stands nothing
pub behind_all : {A B : Type 0} (f : A → Expansion B) (before : List B) (s : State) → behind f before [] s ≡ Yields before s
behind_all f before s = ap (λ bs. Yields bs s) (append-nil before)

pub one_more : {B : Type 0} (before : List B) (b : B) (o : Outcome (List B))
    → and_then (and_then o (λ more. pure (b ∷ more))) (λ more. pure (before ++ more)) ≡ and_then o (λ more. pure ((before ++ b ∷ []) ++ more))
one_more before b (Yields bs s) = ap (λ all. Yields all s) (sym (append_assoc before (b ∷ []) bs))
one_more before b (Refuses r) = refl

-- a part gives its value
pub behind_one : {A B : Type 0} (f : A → Expansion B) (before : List B) (a : A) (b : B) (rest : List A) (s t : State) → f a s ≡ Yields b t
    → behind f before (a ∷ rest) s ≡ behind f (before ++ b ∷ []) rest t
behind_one f before a b rest s t is =
    ap (λ o. and_then (and_then o (λ b. λ s. and_then (each f rest s) (λ more. pure (b ∷ more)))) (λ more. pure (before ++ more))) is ∙ one_more before b (each f rest t)

-- a part breaks a rule
pub behind_refused : {A B : Type 0} (f : A → Expansion B) (before : List B) (a : A) (rest : List A) (s : State) (r : Refusal) → f a s ≡ Refuses r
    → behind f before (a ∷ rest) s ≡ Refuses r
behind_refused f before a rest s r is =
    ap (λ o. and_then (and_then o (λ b. λ s. and_then (each f rest s) (λ more. pure (b ∷ more)))) (λ more. pure (before ++ more))) is

-- a part of a list breaks a rule, and so the list does
pub list_refused : {A B : Type 0} (f : A → Expansion B) (xs ys : List A) (before : List B) (a : A) (rest : List A) (s s' t : State) (left : Outcome (List B)) (e : FrontErr)
    → behind f [] xs s ≡ behind f before ys s' → ys ≡ a ∷ rest → Continues (behind f before (a ∷ rest) s') left (Err e) → Answers {A = List B} (λ bs. bs) (each f xs s) (Err e) t
list_refused f xs ys before a rest s s' t left (Refused r) whole is stops =
    sym (behind_none f xs s) ∙ whole ∙ ap (λ zs. behind f before zs s') is ∙ stops
list_refused f xs ys before a rest s s' t left NoMemory whole is stops = tt

-- a list with its first element apart
pub split_first : {A : Type 0} (xs : List A) (a : A) → 1 ≤ length xs → a ≡ get_or xs 0 a → xs ≡ a ∷ drop 1 xs
split_first [] a some is = absurd (omega arith)
split_first (x ∷ xs) a some is = ap (λ (y : _). y ∷ xs) (sym is)
