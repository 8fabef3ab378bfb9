-- The labels of an arm: the first step and the last.
use Rattle.std.proofs.Common.{◌≡◌, List, [], ◌∷◌, ◌++◌, Err, sym, ap, ◌∙◌}
use Rattle.std.proofs.lemmas.List.{append-nil}
use Rattle.hc_num.specs.Number.{Number}
use Rattle.hc_tree.specs.declared.place.Place.{Place}
use Rattle.hc_tree.specs.declared.expr.ExprTree.{ExprTree}
use Rattle.hc_tree.specs.declared.stmt.Label.{Label}
use Rattle.hc_tree.specs.declared.stmt.Label.TheVariants as label
use Rattle.hc_tree.specs.declared.refusal.Refusal.{Refusal}
use Rattle.hc_tree.specs.declared.refusal.FrontErr.{FrontErr}
use Rattle.hc_tree.specs.declared.refusal.FrontErr.TheVariants.{Refused, NoMemory}
use Rattle.hc_scope.specs.declared.state.State.{State}
use Rattle.hc_scope.specs.Declaration.{initial}
use Rattle.hc_scope.specs.Expansion.{Outcome, Yields, Refuses, and_then, pure}
use Rattle.hc_scope.specs.Labelled.{labels_behind}
use Rattle.hc_scope.specs.Lists.{Continues}
use Rattle.hc_scope.specs.Parts.{Parts, Context, TypeOf}
use Rattle.hc_scope.specs.Reading.{Answers}
use Rattle.hc_scope.specs.Statement.{labels}
use Rattle.hc_evaluate.proofs.Lists.{nothing_before, one_more}

-- behind nothing stand all labels
pub labels_none : (p : Parts) (c : Context) (t : TypeOf) (all : List Label) (s : State) → labels_behind p c t [] all s ≡ labels p c t all s
labels_none p c t all s = nothing_before (labels p c t all s)

-- behind all of them stands nothing
pub labels_all : (p : Parts) (c : Context) (t : TypeOf) (before : List Number) (s : State) → labels_behind p c t before [] s ≡ Yields before s
labels_all p c t before s = ap (λ ns. Yields ns s) (append-nil before)

-- a label gives its number
pub label_one : (p : Parts) (c : Context) (t : TypeOf) (before : List Number) (at : Place) (value : ExprTree) (n : Number) (rest : List Label) (s u : State)
    → initial p c t value s ≡ Yields n u → labels_behind p c t before (label.Case at value ∷ rest) s ≡ labels_behind p c t (before ++ n ∷ []) rest u
label_one p c t before at value n rest s u is =
    ap (λ o. and_then (and_then o (λ n. λ s. and_then (labels p c t rest s) (λ more. pure (n ∷ more)))) (λ more. pure (before ++ more))) is ∙ one_more before n (labels p c t rest u)

-- a label breaks a rule
pub label_refused : (p : Parts) (c : Context) (t : TypeOf) (before : List Number) (at : Place) (value : ExprTree) (rest : List Label) (s : State) (r : Refusal)
    → initial p c t value s ≡ Refuses r → labels_behind p c t before (label.Case at value ∷ rest) s ≡ Refuses r
label_refused p c t before at value rest s r is =
    ap (λ o. and_then (and_then o (λ n. λ s. and_then (labels p c t rest s) (λ more. pure (n ∷ more)))) (λ more. pure (before ++ more))) is

-- a label of several breaks a rule, and so all of them do
pub labels_refused : (p : Parts) (c : Context) (t : TypeOf) (all left : List Label) (before : List Number) (first : Label) (rest : List Label) (s s' u : State) (behind : Outcome (List Number)) (e : FrontErr)
    → labels_behind p c t [] all s ≡ labels_behind p c t before left s' → left ≡ first ∷ rest
    → Continues (labels_behind p c t before (first ∷ rest) s') behind (Err e) → Answers {A = List Number} (λ ns. ns) (labels p c t all s) (Err e) u
labels_refused p c t all left before first rest s s' u behind (Refused r) whole is stops =
    sym (labels_none p c t all s) ∙ whole ∙ ap (λ more. labels_behind p c t before more s') is ∙ stops
labels_refused p c t all left before first rest s s' u behind NoMemory whole is stops = tt
