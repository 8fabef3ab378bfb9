-- Forms whose first parts are expanded apart.
use Rattle.std.proofs.Common.{◌≡◌, Option, Result, Err, refl, sym, subst, ap, ◌∙◌}
use Rattle.hc_tree.specs.declared.place.Place.{Place}
use Rattle.hc_tree.specs.declared.expr.ExprTree.{ExprTree}
use Rattle.hc_tree.specs.declared.refusal.FrontErr.{FrontErr}
use Rattle.hc_tree.specs.declared.refusal.FrontErr.TheVariants.{Refused, NoMemory}
use Rattle.hc_tree.specs.declared.stmt.LocalItem.TheOpen.{Stmt-F}
use Rattle.hc_tree.specs.declared.stmt.Simple.{Simple}
use Rattle.hc_tree.specs.declared.stmt.Stmt as tree
use Rattle.hc_core.specs.Program.{Expression, Statement, If}
use Rattle.hc_core.specs.Read.{statement}
use Rattle.hc_core.specs.declared.stmt.Stmt.{Stmt}
use Rattle.hc_scope.specs.Expansion.{Outcome, Yields, Refuses, and_then, pure}
use Rattle.hc_expand.specs.Forms.{IsMade, Both, both, if_branches, Loop, loop_last, loop_condition, loop_parts, loop_body}
use Rattle.hc_scope.specs.Parts.{Parts, Context}
use Rattle.hc_scope.specs.Reading.{Answers}
use Rattle.hc_scope.specs.Statement.{statement_layer, statement_or_skip, simple_or_skip, condition_or_one}
use Rattle.hc_scope.specs.declared.state.State.{State}
use Rattle.hc_expand.proofs.Made.{made_answers}

-- ---- `if`

other_apart : (place : Place) (h : Expression) (x : Statement) (o : Outcome Statement)
    → and_then o (λ y. pure (If place h x y)) ≡ and_then (and_then o (λ y. pure (record { chosen = x; other = y }))) (λ (z : Both). pure (If place h z.chosen z.other))
other_apart place h x (Yields y s) = refl
other_apart place h x (Refuses r) = refl

both_apart : (p : Parts) (c : Context) (place : Place) (h : Expression) (b : Option tree.Stmt) (o : Outcome Statement)
    → and_then o (λ x. λ s. and_then (statement_or_skip p c b s) (λ y. pure (If place h x y)))
    ≡ and_then (and_then o (λ x. λ s. and_then (statement_or_skip p c b s) (λ y. pure (record { chosen = x; other = y })))) (λ (z : Both). pure (If place h z.chosen z.other))
both_apart p c place h b (Yields x s) = other_apart place h x (statement_or_skip p c b s)
both_apart p c place h b (Refuses r) = refl

pub if_apart : (p : Parts) (c : Context) (place : Place) (h : Expression) (a : tree.Stmt) (b : Option tree.Stmt) (s : State)
    → if_branches p c place h a b s ≡ and_then (both p c a b s) (λ (z : Both). pure (If place h z.chosen z.other))
if_apart p c place h a b s = both_apart p c place h b (p.statement c a s)

pub if_answers : (p : Parts) (c : Context) (place : Place) (h : Expression) (a : tree.Stmt) (b : Option tree.Stmt) (s t : State) (x : Both) (r : Result Stmt FrontErr)
    → both p c a b s ≡ Yields x t → IsMade (If place h x.chosen x.other) r → Answers statement (if_branches p c place h a b s) r t
if_answers p c place h a b s t x r is made =
    let whole = if_apart p c place h a b s ∙ ap (λ o. and_then o (λ (z : Both). pure (If place h z.chosen z.other))) is in
    subst (λ o. Answers statement o r t) (sym whole) (made_answers (If place h x.chosen x.other) r t made)

pub if_stops : (p : Parts) (c : Context) (place : Place) (h : Expression) (a : tree.Stmt) (b : Option tree.Stmt) (s t u : State) (e : FrontErr)
    → Answers {A = Both} (λ x. x) (both p c a b s) (Err e) t → Answers statement (if_branches p c place h a b s) (Err e) u
if_stops p c place h a b s t u (Refused r) stops = if_apart p c place h a b s ∙ ap (λ o. and_then o (λ (z : Both). pure (If place h z.chosen z.other))) stops
if_stops p c place h a b s t u NoMemory stops = tt

-- ---- `for`

last_apart : (p : Parts) (c : Context) (place : Place) (body : tree.Stmt) (first : Statement) (holding : Expression) (o : Outcome Statement)
    → and_then o (λ b. loop_body p c place body (record { first = first; holding = holding; last = b }))
    ≡ and_then (and_then o (λ b. pure (record { first = first; holding = holding; last = b }))) (loop_body p c place body)
last_apart p c place body first holding (Yields b s) = refl
last_apart p c place body first holding (Refuses r) = refl

condition_apart : (p : Parts) (c : Context) (place : Place) (body : tree.Stmt) (first : Statement) (last : Option Simple) (o : Outcome Expression)
    → and_then o (λ holding. λ s. and_then (simple_or_skip p c last s) (λ b. loop_body p c place body (record { first = first; holding = holding; last = b })))
    ≡ and_then (and_then o (λ holding. loop_last p c first holding last)) (loop_body p c place body)
condition_apart p c place body first last (Yields holding s) = last_apart p c place body first holding (simple_or_skip p c last s)
condition_apart p c place body first last (Refuses r) = refl

first_apart : (p : Parts) (c : Context) (place : Place) (body : tree.Stmt) (e : Option ExprTree) (last : Option Simple) (o : Outcome Statement)
    → and_then o (λ a. λ s. and_then (condition_or_one p c e s) (λ holding. λ t. and_then (simple_or_skip p c last t) (λ b. loop_body p c place body (record { first = a; holding = holding; last = b }))))
    ≡ and_then (and_then o (λ a. loop_condition p c a e last)) (loop_body p c place body)
first_apart p c place body e last (Yields a s) = condition_apart p c place body a last (condition_or_one p c e s)
first_apart p c place body e last (Refuses r) = refl

pub for_apart : (p : Parts) (c : Context) (place : Place) (first : Option Simple) (e : Option ExprTree) (last : Option Simple) (body : tree.Stmt) (s : State)
    → statement_layer p c (Stmt-F.For place first e last body) s ≡ and_then (loop_parts p c first e last s) (loop_body p c place body)
for_apart p c place first e last body s = first_apart p c place body e last (simple_or_skip p c first s)

pub for_goes : (p : Parts) (c : Context) (place : Place) (first : Option Simple) (e : Option ExprTree) (last : Option Simple) (body : tree.Stmt) (s t u : State) (l : Loop) (r : Result Stmt FrontErr)
    → loop_parts p c first e last s ≡ Yields l t → Answers statement (loop_body p c place body l t) r u
    → Answers statement (statement_layer p c (Stmt-F.For place first e last body) s) r u
for_goes p c place first e last body s t u l r is behind =
    let whole = for_apart p c place first e last body s ∙ ap (λ o. and_then o (loop_body p c place body)) is in
    subst (λ o. Answers statement o r u) (sym whole) behind

pub for_stops : (p : Parts) (c : Context) (place : Place) (first : Option Simple) (e : Option ExprTree) (last : Option Simple) (body : tree.Stmt) (s t v : State) (x : FrontErr)
    → Answers {A = Loop} (λ l. l) (loop_parts p c first e last s) (Err x) t → Answers statement (statement_layer p c (Stmt-F.For place first e last body) s) (Err x) v
for_stops p c place first e last body s t v (Refused r) stops = for_apart p c place first e last body s ∙ ap (λ o. and_then o (loop_body p c place body)) stops
for_stops p c place first e last body s t v NoMemory stops = tt
