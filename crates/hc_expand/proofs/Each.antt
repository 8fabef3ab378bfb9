-- What is expanded one item after another, up to an item.
use Rattle.std.proofs.Common.{◌≡◌, ◌-◌, List, [], ◌∷◌, ◌++◌, length, drop, take, map, refl, sym, ap, subst, ◌∙◌, append_assoc, append-nil, Ok, Err}
use Rattle.std.proofs.lemmas.List.{map-append, take_rest}
use Rattle.hc_tree.specs.declared.refusal.FrontErr.{FrontErr}
use Rattle.hc_tree.specs.declared.refusal.FrontErr.TheVariants.{Refused, NoMemory}
use Rattle.hc_scope.specs.declared.state.State.{State}
use Rattle.hc_scope.specs.Expansion.{Outcome, Yields, Refuses, Expansion, and_then, pure, each}
use Rattle.hc_scope.specs.Reading.{Answers}

-- some items gave these values, and the rest follows
pub record Along {A B : Type 0} (f : A → Expansion B) (all : List A) (s : State) (done : List B) (rest : List A) (t : State) : Type 0 where
  pub is : each f all s ≡ and_then (each f rest t) (λ more. pure (done ++ more))

none_before : {B : Type 0} (o : Outcome (List B)) → o ≡ and_then o (λ more. pure ([] ++ more))
none_before (Yields more t) = refl
none_before (Refuses r) = refl

pub along_start : {A B : Type 0} (f : A → Expansion B) (all : List A) (s : State) → Along f all s [] all s
along_start f all s = record { is = none_before (each f all s) }

one_more : {B : Type 0} (o : Outcome (List B)) (done : List B) (b : B)
    → and_then (and_then o (λ more. pure (b ∷ more))) (λ more. pure (done ++ more)) ≡ and_then o (λ more. pure ((done ++ b ∷ []) ++ more))
one_more (Yields more t) done b = ap (λ l. Yields l t) (sym (append_assoc done (b ∷ []) more))
one_more (Refuses r) done b = refl

pub along_more : {A B C : Type 0} (f : A → Expansion B) (read : C → B) (all : List A) (s : State) (done : List C) (x : A) (rest : List A) (t u : State) (b : C)
    → Along f all s (map read done) (x ∷ rest) t → Answers read (f x t) (Ok b) u → Along f all s (map read (done ++ b ∷ [])) rest u
along_more f read all s done x rest t u b a is =
    let here = ap (λ o. and_then (and_then o (λ v. λ w. and_then (each f rest w) (λ more. pure (v ∷ more)))) (λ more. pure (map read done ++ more))) is in
    let step = a.is ∙ here ∙ one_more (each f rest u) (map read done) (read b) in
    record { is = subst (λ l. each f all s ≡ and_then (each f rest u) (λ more. pure (l ++ more))) (sym (map-append read done (b ∷ []))) step }

pub along_err : {A B C D : Type 0} (f : A → Expansion B) (read : C → B) (other : D → List B) (all : List A) (s : State) (done : List B) (x : A) (rest : List A) (t u v : State) (e : FrontErr)
    → Along f all s done (x ∷ rest) t → Answers read (f x t) (Err e) u → Answers other (each f all s) (Err e) v
along_err f read other all s done x rest t u v (Refused r) a is =
    a.is ∙ ap (λ o. and_then (and_then o (λ b. λ w. and_then (each f rest w) (λ more. pure (b ∷ more)))) (λ more. pure (done ++ more))) is
along_err f read other all s done x rest t u v NoMemory a is = tt

pub along_end : {A B : Type 0} (f : A → Expansion B) (all : List A) (s : State) (done : List B) (t : State)
    → Along f all s done [] t → each f all s ≡ Yields done t
along_end f all s done t a = a.is ∙ ap (λ l. Yields l t) (append-nil done)

-- one more item of a list that is taken apart from its front
pub along_step : {A B C : Type 0} (f : A → Expansion B) (read : C → B) (all : List A) (s : State) (done after : List C) (items : List A) (x : A) (t u : State) (b : C)
    → Along f all s (map read done) items t → items ≡ x ∷ drop 1 items → Answers read (f x t) (Ok b) u → after ≡ done ++ b ∷ []
    → Along f all s (map read after) (take (length items - 1) (drop 1 items)) u
along_step f read all s done after items x t u b a apart is grown =
    let before = subst (λ l. Along f all s (map read done) l t) apart a in
    let more = along_more f read all s done x (drop 1 items) t u b before is in
    subst (λ l. Along f all s (map read after) l u) (sym (take_rest items 1)) (subst (λ l. Along f all s (map read l) (drop 1 items) u) (sym grown) more)
