-- Where a step breaks a rule, the whole does.
use Rattle.std.proofs.Common.{◌≡◌, ℕ, List, ◌∷◌, Some, None, Err, ap, ◌∙◌}
use Rattle.hc_tree.specs.declared.decl.Spec.{Spec}
use Rattle.hc_tree.specs.declared.refusal.FrontErr.{FrontErr}
use Rattle.hc_tree.specs.declared.refusal.FrontErr.TheVariants.{Refused, NoMemory}
use Rattle.hc_scope.specs.Declaration.{names, pins_by, data_entry, data_entries}
use Rattle.hc_scope.specs.Expansion.{Outcome, Expansion, and_then, pure}
use Rattle.hc_scope.specs.Parts.{Context, TypeOf, Parts, DeclaredName}
use Rattle.hc_scope.specs.Reading.{Answers}
use Rattle.hc_scope.specs.declared.state.State.{State}

-- a step of two
pub stops_on : {A B : Type 0} (o : Outcome A) (next : A → Expansion B) (whole : Outcome B) (e : FrontErr) (t t' : State)
    → whole ≡ and_then o next → Answers {A = A} (λ a. a) o (Err e) t → Answers {A = B} (λ b. b) whole (Err e) t'
stops_on o next whole (Refused r) t t' is stops = is ∙ ap (λ q. and_then q next) stops
stops_on o next whole NoMemory t t' is stops = tt

-- the first `data` entry
pub entry_stops : (w : ℕ) (first : Spec) (rest : List Spec) (whole : Outcome (List (List ℕ))) (e : FrontErr) (s : State)
    → whole ≡ and_then (data_entry w None first s) (λ more. data_entries w more rest)
    → Answers {A = List (List ℕ)} (λ pins. pins) (pins_by first.name w first.value s) (Err e) s → Answers {A = List (List ℕ)} (λ pins. pins) whole (Err e) s
entry_stops w first rest whole (Refused r) s is stops =
    is ∙ ap (λ q. and_then (and_then q (λ pins. pure (Some pins))) (λ more. data_entries w more rest)) stops
entry_stops w first rest whole NoMemory s is stops = tt

-- a name of several
pub names_stop : (p : Parts) (c : Context) (t : TypeOf) (x : DeclaredName) (rest : List DeclaredName) (whole : Outcome Context) (e : FrontErr) (s s' s'' : State)
    → whole ≡ names p c t (x ∷ rest) s → Answers {A = Context} (λ c. c) (p.name c t x s) (Err e) s' → Answers {A = Context} (λ c. c) whole (Err e) s''
names_stop p c t x rest whole (Refused r) s s' s'' is stops = is ∙ ap (λ q. and_then q (λ inner. names p inner t rest)) stops
names_stop p c t x rest whole NoMemory s s' s'' is stops = tt
