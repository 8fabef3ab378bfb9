-- The turns of a replicator, up to a turn.
use Rattle.std.proofs.Common.{◌≡◌, ◌≤◌, ◌-◌, ℕ, zero, suc, ℤ, List, [], ◌∷◌, ◌++◌, Option, Some, None, refl, sym, ap, subst, ◌∙◌, append_assoc, append-nil, arith, Err}
use Rattle.hc_tree.specs.declared.place.Place.{Place}
use Rattle.hc_tree.specs.declared.name.Ident.{Ident}
use Rattle.hc_tree.specs.declared.expr.ExprTree.{ExprTree}
use Rattle.hc_tree.specs.declared.stmt.Simple.{Simple}
use Rattle.hc_tree.specs.declared.stmt.Block.{Block}
use Rattle.hc_tree.specs.declared.refusal.FrontErr.{FrontErr}
use Rattle.hc_tree.specs.declared.refusal.FrontErr.TheVariants.{Refused, NoMemory}
use Rattle.hc_tree.specs.declared.refusal.Rule.TheVariants.{L5}
use Rattle.hc_tree.specs.declared.refusal.Detail.TheVariants.{Nothing}
use Rattle.hc_core.specs.Program.{Statement}
use Rattle.hc_scope.specs.declared.state.State.{State}
use Rattle.hc_scope.specs.Expansion.{Outcome, Yields, Refuses, and_then, pure}
use Rattle.hc_scope.specs.Parts.{Parts, Context}
use Rattle.hc_scope.specs.Reading.{Answers}
use Rattle.hc_scope.specs.Statement.{turn, turns, turns_behind}

-- these bodies, and those that follow
abbrev pub behind : List Statement → Outcome (List Statement) → Outcome (List Statement)
behind done o = and_then o (λ rest. pure (done ++ rest))

nothing_before : (o : Outcome (List Statement)) → o ≡ behind [] o
nothing_before (Yields rest t) = refl
nothing_before (Refuses r) = refl

one_more : (o : Outcome (List Statement)) (done : List Statement) (b : Statement)
    → behind done (and_then o (λ rest. pure (b ∷ rest))) ≡ behind (done ++ b ∷ []) o
one_more (Yields rest t) done b = ap (λ l. Yields l t) (sym (append_assoc done (b ∷ []) rest))
one_more (Refuses r) done b = refl

-- the turns as they stand before the first
pub turns_start : (o : Outcome (List Statement)) → o ≡ behind [] o
turns_start o = nothing_before o

-- a turn goes on to the next
pub turns_more : (most : ℕ) (p : Parts) (c : Context) (place : Place) (x : Ident) (condition : ExprTree) (step : Simple) (body : Block) (v : ℤ) (done : List Statement) (b : Statement) (next : ℤ) (s t : State)
    → turn p c x condition step body v s ≡ Yields (Some (b, next)) t
    → behind done (turns (suc most) p c place x condition step body v s) ≡ behind (done ++ b ∷ []) (turns most p c place x condition step body next t)
unfolding turns
turns_more most p c place x condition step body v done b next s t is =
    ap (λ o. behind done (and_then o (turns_behind (turns most p c place x condition step body)))) is
    ∙ one_more (turns most p c place x condition step body next t) done b

-- the condition doesn't hold
pub turns_end : (most : ℕ) (p : Parts) (c : Context) (place : Place) (x : Ident) (condition : ExprTree) (step : Simple) (body : Block) (v : ℤ) (done : List Statement) (s t : State)
    → turn p c x condition step body v s ≡ Yields None t
    → behind done (turns (suc most) p c place x condition step body v s) ≡ Yields done t
unfolding turns
turns_end most p c place x condition step body v done s t is =
    ap (λ o. behind done (and_then o (turns_behind (turns most p c place x condition step body)))) is
    ∙ ap (λ l. Yields l t) (append-nil done)

-- a turn is refused
pub turns_err : (most : ℕ) (p : Parts) (c : Context) (place : Place) (x : Ident) (condition : ExprTree) (step : Simple) (body : Block) (v : ℤ) (done : List Statement) (s : State) (r : _)
    → turn p c x condition step body v s ≡ Refuses r
    → behind done (turns (suc most) p c place x condition step body v s) ≡ Refuses r
unfolding turns
turns_err most p c place x condition step body v done s r is =
    ap (λ o. behind done (and_then o (turns_behind (turns most p c place x condition step body)))) is

-- there are no more turns
pub turns_none : (p : Parts) (c : Context) (place : Place) (x : Ident) (condition : ExprTree) (step : Simple) (body : Block) (v : ℤ) (done : List Statement) (s : State)
    → behind done (turns 0 p c place x condition step body v s) ≡ Refuses (record { rule = L5; place = place; detail = Nothing })
unfolding turns
turns_none p c place x condition step body v done s = refl

-- ---- the same, by how many turns may follow

pub goes_on : (most : ℕ) (p : Parts) (c : Context) (place : Place) (x : Ident) (condition : ExprTree) (step : Simple) (body : Block) (v : ℤ) (done : List Statement) (b : Statement) (next : ℤ) (s t : State)
    → 1 ≤ most → turn p c x condition step body v s ≡ Yields (Some (b, next)) t
    → behind done (turns most p c place x condition step body v s) ≡ behind (done ++ b ∷ []) (turns (most - 1) p c place x condition step body next t)
goes_on zero p c place x condition step body v done b next s t least is = absurd (omega arith)
goes_on (suc most) p c place x condition step body v done b next s t least is =
    let same : suc most - 1 ≡ most = omega arith in
    subst (λ (n : ℕ). behind done (turns (suc most) p c place x condition step body v s) ≡ behind (done ++ b ∷ []) (turns n p c place x condition step body next t)) (sym same)
    (turns_more most p c place x condition step body v done b next s t is)

pub ends_here : (most : ℕ) (p : Parts) (c : Context) (place : Place) (x : Ident) (condition : ExprTree) (step : Simple) (body : Block) (v : ℤ) (done : List Statement) (s t : State)
    → 1 ≤ most → turn p c x condition step body v s ≡ Yields None t → behind done (turns most p c place x condition step body v s) ≡ Yields done t
ends_here zero p c place x condition step body v done s t least is = absurd (omega arith)
ends_here (suc most) p c place x condition step body v done s t least is = turns_end most p c place x condition step body v done s t is

pub refused_here : {A B : Type 0} (read : A → Option (Statement × ℤ)) (other : B → List Statement) (most : ℕ) (p : Parts) (c : Context) (place : Place) (x : Ident) (condition : ExprTree) (step : Simple) (body : Block) (v : ℤ) (done : List Statement)
    (s u w : State) (a : Outcome (List Statement)) (e : FrontErr)
    → 1 ≤ most → a ≡ behind done (turns most p c place x condition step body v s) → Answers read (turn p c x condition step body v s) (Err e) u → Answers other a (Err e) w
refused_here read other zero p c place x condition step body v done s u w a e least is refused = absurd (omega arith)
refused_here read other (suc most) p c place x condition step body v done s u w a (Refused r) least is refused =
    is ∙ turns_err most p c place x condition step body v done s r refused
refused_here read other (suc most) p c place x condition step body v done s u w a NoMemory least is refused = tt

pub over : {B : Type 0} (other : B → List Statement) (most : ℕ) (p : Parts) (c : Context) (place : Place) (x : Ident) (condition : ExprTree) (step : Simple) (body : Block) (v : ℤ) (done : List Statement)
    (s w : State) (a : Outcome (List Statement)) (e : FrontErr)
    → most ≤ 0 → a ≡ behind done (turns most p c place x condition step body v s) → e ≡ Refused (record { rule = L5; place = place; detail = Nothing }) → Answers other a (Err e) w
over other zero p c place x condition step body v done s w a (Refused r) none is same =
    let q : record { rule = L5; place = place; detail = Nothing } ≡ r = cc in
    is ∙ turns_none p c place x condition step body v done s ∙ ap Refuses q
over other zero p c place x condition step body v done s w a NoMemory none is same = tt
over other (suc most) p c place x condition step body v done s w a e none is same = absurd (omega arith)
