-- Expansions step by step: what one step gives, and what comes behind it.
use Rattle.std.proofs.Common.{◌≡◌, refl, sym, ap, subst, Result, Ok, Err, IfOk}
use Rattle.hc_tree.specs.declared.place.Place.{Place}
use Rattle.hc_tree.specs.declared.refusal.FrontErr.{FrontErr}
use Rattle.hc_tree.specs.declared.refusal.FrontErr.TheVariants.{Refused, NoMemory}
use Rattle.hc_tree.specs.declared.refusal.Refusal.{Refusal}
use Rattle.hc_tree.specs.declared.refusal.Rule.{Rule}
use Rattle.hc_tree.specs.declared.refusal.Detail.{Detail}
use Rattle.hc_width.specs.declared.value.Value.{Value}
use Rattle.hc_width.specs.Operand.{Operand, operand}
use Rattle.hc_width.specs.Judged as width
use Rattle.hc_width.specs.Judged.{Judged, Gives, Breaks}
use Rattle.hc_scope.specs.declared.state.State.{State}
use Rattle.hc_scope.specs.Expansion.{Outcome, Yields, Refuses, Expansion, and_then, judged}
use Rattle.hc_scope.specs.Reading.{Answers, Says}

-- an error stays what it is, whatever would come behind it
pub err_then : {A B C D : Type 0} (read : A → B) (other : C → D) (o : Outcome B) (next : B → Expansion D) (e : FrontErr) (s t : State)
    → Answers read o (Err e) s → Answers other (and_then o next) (Err e) t
err_then read other (Yields b u) next (Refused r) s t is = absurd (cc)
err_then read other (Refuses q) next (Refused r) s t is = cc
err_then read other o next NoMemory s t is = tt

-- a value goes on to what comes behind it
pub value_then : {A B C D : Type 0} (read : A → B) (other : C → D) (o : Outcome B) (next : B → Expansion D) (a : A) (s t : State) (r : Result C FrontErr)
    → Answers read o (Ok a) s → Answers other (next (read a) s) r t → Answers other (and_then o next) r t
value_then read other o next a s t r is behind = subst (λ (q : Outcome _). Answers other (and_then q next) r t) (sym is) behind

-- a refusal, or want of memory, as an answer
pub says_answers : {A B : Type 0} (read : A → B) (q : Refusal) (e : FrontErr) (s : State) → Says q e → Answers read (Refuses q) (Err e) s
says_answers read q (Refused r) s is = cc
says_answers read q NoMemory s is = tt

refusal_is : (rule : Rule) (at : Place) (detail : Detail) (r : Refusal) → rule ≡ r.rule → r.place ≡ at → detail ≡ r.detail
    → record { rule = rule; place = at; detail = detail } ≡ r
refusal_is rule at detail r a b c = rw (a, ← b, c) refl

-- what the width rules say
pub judged_answers : (j : Judged Operand) (at : Place) (r : Result Value FrontErr) (s : State) → width.Answers j at r → Answers operand (judged at j s) r s
judged_answers (Gives a) at (Ok v) s is = cc
judged_answers (Breaks rule detail) at (Ok v) s is = absurd (cc)
judged_answers (Gives a) at (Err (Refused r)) s is = absurd (cc (is.0))
judged_answers (Breaks rule detail) at (Err (Refused r)) s is =
    let parts = is.0 in
    let a : rule ≡ r.rule = cc in
    let c : detail ≡ r.detail = cc in
    ap Refuses (refusal_is rule at detail r a (is.1) c)
judged_answers j at (Err NoMemory) s is = tt

-- a property of each value that an expansion gives is one of the answer's
pub answer_kept : {A B : Type 0} (read : A → B) (o : Outcome B) (r : Result A FrontErr) (s : State) (P : B → Type 0) → Answers read o r s
    → ((v : B) (t : State) → o ≡ Yields v t → P v) → IfOk r (λ a. P (read a))
answer_kept read o (Ok a) s P is each = each (read a) s is
answer_kept read o (Err e) s P is each = tt
