-- Statements that are made of their parts.
use Rattle.std.proofs.Common.{◌≡◌, List, [], ◌∷◌, ◌++◌, Result, Ok, Err, IfOk, IfErr, OnOk, sym, subst, ap, ◌∙◌}
use Rattle.hc_tree.specs.declared.place.Place.{Place}
use Rattle.hc_tree.specs.declared.refusal.FrontErr.{FrontErr}
use Rattle.hc_tree.specs.declared.refusal.FrontErr.TheVariants.{Refused, NoMemory}
use Rattle.hc_core.specs.Program.{Expression, Statement, Seq, If, While, DoWhile, stop, ◌⨾◌}
use Rattle.hc_core.specs.Read.{statement, statements}
use Rattle.hc_core.specs.Sound.{IsTyped}
use Rattle.hc_core.specs.Typed.{HasSomeType, kinds_of}
use Rattle.hc_core.specs.declared.object.Kind.{Kind}
use Rattle.hc_core.specs.declared.object.Object.{Object}
use Rattle.hc_core.specs.declared.stmt.Stmt.{Stmt}
use Rattle.hc_core.specs.declared.stmt.Stmt.TheVariants as s
use Rattle.hc_core.proofs.Read.{read_Seq}
use Rattle.hc_scope.specs.Expansion.{Outcome, Yields, and_then, pure}
use Rattle.hc_expand.specs.Forms.{IsMade, for_made, Both, AreBothTyped, Loop, IsLoopTyped, loop_read}
use Rattle.hc_expand.specs.declared.looping.LoopParts.{LoopParts}
use Rattle.hc_scope.specs.Reading.{Answers}
use Rattle.hc_scope.specs.Sound.{Grows}
use Rattle.hc_scope.specs.declared.state.State.{State}
use Rattle.hc_expand.proofs.Kept.{grown_some_type, grown_statement}
use Rattle.hc_scope.proofs.Longer.{grows_on}
use Rattle.hc_evaluate.proofs.Steps.{err_then, value_then}

pub made_answers : (x : Statement) (r : Result Stmt FrontErr) (s : State) → IsMade x r → Answers statement (Yields x s) r s
made_answers x (Ok a) s is = ap (λ y. Yields y s) (sym is)
made_answers x (Err (Refused r)) s is = absurd is
made_answers x (Err NoMemory) s is = tt

pub made_typed : (kinds : List Kind) (x : Statement) (r : Result Stmt FrontErr) → IsMade x r → IsTyped kinds x → IfOk r (λ a. IsTyped kinds (statement a))
made_typed kinds x (Ok a) is typed = subst (λ y. IsTyped kinds y) (sym is) typed
made_typed kinds x (Err e) is typed = tt

-- want of memory at a part
pub not_made : (x y : Statement) (e : FrontErr) → IsMade x (Err e) → IsMade y (Err e)
not_made x y (Refused r) is = is
not_made x y NoMemory is = tt

same_made : (x y : Statement) (r : Result Stmt FrontErr) → x ≡ y → IsMade x r → IsMade y r
same_made x y r is made = subst (λ z. IsMade z r) is made

pub read_pair : (place : Place) (a b : Stmt) (one two : List Stmt) → one ≡ [] ++ a ∷ [] → two ≡ one ++ b ∷ []
    → statement (s.Seq place two) ≡ Seq place (statement a ⨾ statement b ⨾ stop)
unfolding statements
read_pair place a b one two first second = read_Seq place two ∙ ap (λ l. Seq place (statements l)) (second ∙ ap (λ l. l ++ b ∷ []) first)

pub made_turning : (place : Place) (pair : Stmt) (holding : Expression) (inner : Statement) (r : Result Stmt FrontErr) → statement pair ≡ inner
    → IsMade (While place holding (statement pair)) r → IsMade (While place holding inner) r
made_turning place pair holding inner r is made = same_made (While place holding (statement pair)) (While place holding inner) r (ap (λ b. While place holding b) is) made

pub made_for : (place : Place) (first turning : Stmt) (holding : Expression) (last body : Statement) (r : Result Stmt FrontErr)
    → statement turning ≡ While place holding (Seq place (body ⨾ last ⨾ stop)) → IsMade (Seq place (statement first ⨾ statement turning ⨾ stop)) r
    → IsMade (for_made place (statement first) holding last body) r
made_for place first turning holding last body r is made =
    same_made (Seq place (statement first ⨾ statement turning ⨾ stop)) (for_made place (statement first) holding last body) r (ap (λ t. Seq place (statement first ⨾ t ⨾ stop)) is) made

-- ---- the types of what is made, over the objects behind its parts

pub as_before : (old new : List Object) (e : Expression) → new ≡ old → HasSomeType (kinds_of old) e → HasSomeType (kinds_of new) e
as_before old new e is typed = subst (λ (o : List Object). HasSomeType (kinds_of o) e) (sym is) typed

pub stays : (old new : List Object) (x : Statement) → new ≡ old → IsTyped (kinds_of old) x → IsTyped (kinds_of new) x
stays old new x is typed = subst (λ (o : List Object). IsTyped (kinds_of o) x) (sym is) typed

pub if_typed : (a c : List Object) (place : Place) (e : Expression) (b : Both) (r : Result Stmt FrontErr) → HasSomeType (kinds_of a) e → Grows a c
    → AreBothTyped (kinds_of c) b → IsMade (If place e b.chosen b.other) r → IfOk r (λ s. IsTyped (kinds_of c) (statement s))
if_typed a c place e b r condition grows (one, two) made = made_typed (kinds_of c) (If place e b.chosen b.other) r made (grown_some_type a c e grows condition, one, two)

pub while_typed : (a b c : List Object) (place : Place) (e : Expression) (body : Statement) (r : Result Stmt FrontErr) → HasSomeType (kinds_of a) e → b ≡ a → Grows b c
    → IsTyped (kinds_of c) body → IsMade (While place e body) r → IfOk r (λ s. IsTyped (kinds_of c) (statement s))
while_typed a b c place e body r condition same grows typed made =
    made_typed (kinds_of c) (While place e body) r made (grown_some_type b c e grows (as_before a b e same condition), typed)

pub do_typed : (a b : List Object) (place : Place) (e : Expression) (body : Statement) (r : Result Stmt FrontErr) → IsTyped (kinds_of a) body → HasSomeType (kinds_of a) e → b ≡ a
    → IsMade (DoWhile place body e) r → IfOk r (λ s. IsTyped (kinds_of b) (statement s))
do_typed a b place e body r typed condition same made =
    made_typed (kinds_of b) (DoWhile place body e) r made (as_before a b e same condition, stays a b body same typed)

pub loop_ok : (old new : List Object) (r : Result LoopParts FrontErr) → new ≡ old → IfOk r (λ l. IsLoopTyped (kinds_of new) (loop_read l))
    → IfOk r (λ l. IsLoopTyped (kinds_of old) (loop_read l))
loop_ok old new r is typed = subst (λ (o : List Object). IfOk r (λ l. IsLoopTyped (kinds_of o) (loop_read l))) is typed

pub loop_grows_where : (a b c : List Object) (r : Result Stmt FrontErr) → b ≡ a → OnOk r (Grows b c) → OnOk r (Grows a c)
loop_grows_where a b c r is grows = subst (λ (o : List Object). OnOk r (Grows o c)) is grows

pub loop_after : (old new : List Object) (l : Loop) → new ≡ old → IsLoopTyped (kinds_of old) l → IsLoopTyped (kinds_of new) l
loop_after old new l is typed = subst (λ (o : List Object). IsLoopTyped (kinds_of o) l) (sym is) typed

pub for_typed : (a z : List Object) (place : Place) (l : Loop) (body : Statement) (r : Result Stmt FrontErr) → IsLoopTyped (kinds_of a) l → Grows a z
    → IsTyped (kinds_of z) body → IsMade (for_made place l.first l.holding l.last body) r → IfOk r (λ s. IsTyped (kinds_of z) (statement s))
for_typed a z place l body r typed grows part made =
    let x = grown_statement a z l.first grows typed.first in
    let y = grown_some_type a z l.holding grows typed.holding in
    let w = grown_statement a z l.last grows typed.last in
    made_typed (kinds_of z) (for_made place l.first l.holding l.last body) r made (x, ((y, (part, (w, tt))), tt))

-- ---- a `for`, of what its body gives

pub for_answers : (place : Place) (l : Loop) (o : Outcome Statement) (body r : Result Stmt FrontErr) (t : State) → Answers statement o body t
    → IfOk body (λ b. IsMade (for_made place l.first l.holding l.last (statement b)) r) → IfErr body (λ e. r ≡ Err e)
    → Answers statement (and_then o (λ part. pure (for_made place l.first l.holding l.last part))) r t
for_answers place l o (Ok b) r t is made stopped =
    value_then statement statement o (λ part. pure (for_made place l.first l.holding l.last part)) b t t r is (made_answers (for_made place l.first l.holding l.last (statement b)) r t made)
for_answers place l o (Err e) r t is made stopped =
    subst (λ (q : Result Stmt FrontErr). Answers statement (and_then o (λ part. pure (for_made place l.first l.holding l.last part))) q t) (sym stopped)
    (err_then statement statement o (λ part. pure (for_made place l.first l.holding l.last part)) e t t is)

pub for_behind_typed : (a z : List Object) (place : Place) (l : Loop) (body r : Result Stmt FrontErr) → IsLoopTyped (kinds_of a) l → OnOk body (Grows a z)
    → IfOk body (λ s. IsTyped (kinds_of z) (statement s)) → IfOk body (λ b. IsMade (for_made place l.first l.holding l.last (statement b)) r) → IfErr body (λ e. r ≡ Err e)
    → IfOk r (λ s. IsTyped (kinds_of z) (statement s))
for_behind_typed a z place l (Ok b) r typed grows part made stopped = for_typed a z place l (statement b) r typed grows part made
for_behind_typed a z place l (Err e) r typed grows part made stopped = subst (λ (q : Result Stmt FrontErr). IfOk q (λ s. IsTyped (kinds_of z) (statement s))) (sym stopped) tt

-- what holds where the body is there holds where the `for` is
pub for_behind_grows : (p : Type 0) (body r : Result Stmt FrontErr) → OnOk body p → IfErr body (λ e. r ≡ Err e) → OnOk r p
for_behind_grows p (Ok b) (Ok s) holds stopped = holds
for_behind_grows p (Ok b) (Err e) holds stopped = tt
for_behind_grows p (Err e) r holds stopped = subst (λ (q : Result Stmt FrontErr). OnOk q p) (sym stopped) tt
