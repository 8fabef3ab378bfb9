-- The rules of the forms of statements, by what the code tests of the token at the front.
use Rattle.std.proofs.Common.{◌≡◌, ◌≢◌, Bool, true, false, List, [], ◌∷◌, length, Option, Some, None, refl, sym, ap, ◌∙◌}
use Rattle.std.specs.Prelude.{option_map}
use Rattle.hc_tree.specs.declared.place.Place.{Place}
use Rattle.hc_tree.specs.declared.stmt.Condition.{Condition}
use Rattle.hc_tree.specs.declared.stmt.Condition.TheVariants as condition
use Rattle.hc_tree.specs.declared.stmt.Order.{Order}
use Rattle.hc_tree.specs.declared.stmt.Order.TheVariants as order
use Rattle.hc_tree.specs.declared.stmt.LocalItem.TheVariants as local
use Rattle.hc_tree.specs.declared.stmt.Block.{roll-Block}
use Rattle.hc_tree.specs.declared.stmt.Stmt.TheVariants as s
use Rattle.hc_tree.specs.declared.stmt.Label.TheVariants as label
use Rattle.hc_tree.specs.declared.stmt.Macro.TheVariants as macro
use Rattle.hc_tree.specs.declared.stmt.Arm.{roll-Arm}
use Rattle.hc_tree.specs.declared.stmt.Offer.TheVariants as offer
use Rattle.hc_tree.specs.declared.stmt.Case.{roll-Case}
use Rattle.hc_tree.specs.declared.stmt.Other.{roll-Other}
use Rattle.hc_lex.specs.declared.mark.Mark.TheVariants as m
use Rattle.hc_lex.specs.declared.token.Placed.{Placed}
use Rattle.hc_grammar.specs.declared.kind.Kind.{Kind}
use Rattle.hc_grammar.specs.declared.kind.Kind.TheVariants as kinds
use Rattle.hc_grammar.specs.Kind.{kind, is_name}
use Rattle.hc_grammar.specs.Table.{mark, form, front}
use Rattle.hc_grammar.specs.Form as f
use Rattle.hc_grammar.specs.Form.{Form, Gives}
use Rattle.hc_grammar.specs.Expression.{Rules, sign}
use Rattle.hc_grammar.specs.Statement.{block_rule, declared_rule, begins_decl, stmts_rule, begins_stmt, stmt_rule, order_tail_rule, name_stmt_tail_rule, else_tail_rule, arms_rule, arm_tail_rule, arm_end_rule, cases_rule, offer_rule, case_end_rule, more_cases_rule, other_end_rule}
use Rattle.hc_grammar.specs.Item.{macro_rule, macro_tail_rule}
use Rattle.hc_grammar.specs.Grammar.{rule}
use Rattle.hc_grammar.specs.Cursor.{Ahead, place_at, place_before}
use Rattle.hc_parse.specs.Turn.{next_kind, begins, begins_local, begins_label, begins_worded, is_step, begins_written, condition_word, order_word, in_order}

-- ---- the token at the front

kind_before : {x : Form} (wanted : Place → Rules x) (end : Place) (ts : List Placed) (k : Kind) → option_map kind (front ts) ≡ Some k
    → ((t : Placed) → kind t ≡ k → rule x (Some t) ≡ wanted t.place) → rule x (front ts) ≡ wanted (place_before end ts)
kind_before wanted end [] k known is = absurd cc
kind_before wanted end (t ∷ tail) k known is = let of : kind t ≡ k = cc in is t of

-- a token of this kind
by_kind : {x : Form} (wanted : Place → Rules x) (c : Ahead) (k : Kind) → next_kind c ≡ Some k
    → ((t : Placed) → kind t ≡ k → rule x (Some t) ≡ wanted t.place) → rule x (front c.rest) ≡ wanted (place_at c)
by_kind wanted c k known is = kind_before wanted c.end c.rest k known is

-- any token, or the end
by_all : {x : Form} (wanted : Rules x) (c : Ahead) → rule x None ≡ wanted → ((t : Placed) (k : Kind) → next_kind c ≡ Some k → kind t ≡ k → rule x (Some t) ≡ wanted)
    → rule x (front c.rest) ≡ wanted
by_all {x} wanted c ending is = at c.rest is
  where
    at : (ts : List Placed) → ((t : Placed) (k : Kind) → option_map kind (front ts) ≡ Some k → kind t ≡ k → rule x (Some t) ≡ wanted) → rule x (front ts) ≡ wanted
    at [] is = ending
    at (t ∷ tail) is = is t (kind t) refl refl

-- such a token
by_true : {x : Form} (p : Kind → Bool) (wanted : Place → Rules x) (c : Ahead) → begins p (next_kind c) ≡ true
    → ((t : Placed) (k : Kind) → kind t ≡ k → p k ≡ true → rule x (Some t) ≡ wanted t.place) → rule x (front c.rest) ≡ wanted (place_at c)
by_true {x} p wanted c such is = at c.end c.rest such
  where
    at : (end : Place) (ts : List Placed) → begins p (option_map kind (front ts)) ≡ true → rule x (front ts) ≡ wanted (place_before end ts)
    at end [] such = absurd cc
    at end (t ∷ tail) such = is t (kind t) refl such

-- no such token
by_false : {x : Form} (p : Kind → Bool) (wanted : Rules x) (c : Ahead) → begins p (next_kind c) ≡ false → rule x None ≡ wanted
    → ((t : Placed) (k : Kind) → kind t ≡ k → p k ≡ false → rule x (Some t) ≡ wanted) → rule x (front c.rest) ≡ wanted
by_false {x} p wanted c not_such ending is = at c.rest not_such
  where
    at : (ts : List Placed) → begins p (option_map kind (front ts)) ≡ false → rule x (front ts) ≡ wanted
    at [] not_such = ending
    at (t ∷ tail) not_such = is t (kind t) refl not_such

differs : (c : Ahead) (k other : Kind) → next_kind c ≡ Some k → next_kind c ≢ Some other → k ≢ other
differs c k other known not_other same = not_other (known ∙ ap Some same)

-- there is a next token, or there is none
pub some_front : (c : Ahead) → length c.rest ≢ 0 → (k : Kind) × (next_kind c ≡ Some k)
some_front c more = at c.rest more
  where
    at : (ts : List Placed) → length ts ≢ 0 → (k : Kind) × (option_map kind (front ts) ≡ Some k)
    at [] more = absurd (more refl)
    at (t ∷ tail) more = (kind t, refl)

pub no_front : (c : Ahead) → length c.rest ≡ 0 → next_kind c ≡ None
no_front c none = at c.rest none
  where
    at : (ts : List Placed) → length ts ≡ 0 → option_map kind (front ts) ≡ None
    at [] none = refl
    at (t ∷ tail) none = absurd cc

-- a token that is such a one
pub begun : (c : Ahead) (p : Kind → Bool) → begins p (next_kind c) ≡ true → (k : Kind) × (next_kind c ≡ Some k) × (p k ≡ true)
begun c p such = at (next_kind c) such
  where
    at : (o : Option Kind) → begins p o ≡ true → (k : Kind) × (o ≡ Some k) × (p k ≡ true)
    at None such = absurd cc
    at (Some k) such = (k, refl, such)

-- the rule at the end
by_end : {x : Form} (wanted : Rules x) (c : Ahead) → next_kind c ≡ None → rule x None ≡ wanted → rule x (front c.rest) ≡ wanted
by_end {x} wanted c none ending = at c.rest none
  where
    at : (ts : List Placed) → option_map kind (front ts) ≡ None → rule x (front ts) ≡ wanted
    at [] none = ending
    at (t ∷ tail) none = absurd cc

-- ---- blocks

pub block_end : (c : Ahead) → next_kind c ≡ None → rule f.block (front c.rest) ≡ None
unfolding rule block_rule
block_end c none = by_end None c none refl

pub block_row : (c : Ahead) (k : Kind) → next_kind c ≡ Some k → rule f.block (front c.rest) ≡ Some (record { row = sign m.BraceOpen ∷ form f.declared ∷ form f.stmts ∷ sign m.BraceClose ∷ []; gives = λ (items, (stmts, _)). roll-Block (record { place = place_at c; declared = items; stmts = stmts }) })
unfolding rule block_rule
block_row c k known = by_kind (λ at. Some (record { row = sign m.BraceOpen ∷ form f.declared ∷ form f.stmts ∷ sign m.BraceClose ∷ []; gives = λ (items, (stmts, _)). roll-Block (record { place = at; declared = items; stmts = stmts }) })) c k known (λ t of. refl)

pub local_macro_row : (c : Ahead) → next_kind c ≡ Some kinds.Macro → rule f.declared (front c.rest) ≡ Some (record { row = form f.«macro» ∷ form f.declared ∷ []; gives = λ (x, (more, _)). local.Macro x ∷ more })
unfolding rule declared_rule
local_macro_row c known = by_kind (λ at. Some (record { row = form f.«macro» ∷ form f.declared ∷ []; gives = λ (x, (more, _)). local.Macro x ∷ more })) c kinds.Macro known (λ t of. rw of refl)

local_decl_at : (t : Placed) (k : Kind) → kind t ≡ k → begins_local k ≡ true → k ≢ kinds.Macro → rule f.declared (Some t) ≡ Some (record { row = form (f.decl true) ∷ form f.declared ∷ []; gives = λ (x, (more, _)). local.Decl x ∷ more })
unfolding rule declared_rule begins_local
local_decl_at t kinds.Macro of such other = absurd (other refl)
local_decl_at t _ of such other = rw of (rw such refl)

pub local_decl_row : (c : Ahead) → begins begins_local (next_kind c) ≡ true → next_kind c ≢ Some kinds.Macro → rule f.declared (front c.rest) ≡ Some (record { row = form (f.decl true) ∷ form f.declared ∷ []; gives = λ (x, (more, _)). local.Decl x ∷ more })
local_decl_row c such other =
    let k = begun c begins_local such in
    by_kind (λ at. Some (record { row = form (f.decl true) ∷ form f.declared ∷ []; gives = λ (x, (more, _)). local.Decl x ∷ more })) c k.0 k.1 (λ t of. local_decl_at t k.0 of k.2 (differs c k.0 kinds.Macro k.1 other))

no_local_at : (t : Placed) (k : Kind) → kind t ≡ k → begins_local k ≡ false → rule f.declared (Some t) ≡ Some (record { row = []; gives = λ _. [] })
unfolding rule declared_rule begins_local
no_local_at t kinds.Macro of not_such = absurd cc
no_local_at t _ of not_such = rw of (rw not_such refl)

pub no_local_row : (c : Ahead) → begins begins_local (next_kind c) ≡ false → rule f.declared (front c.rest) ≡ Some (record { row = []; gives = λ _. [] })
unfolding rule declared_rule
no_local_row c not_such = by_false begins_local (Some (record { row = []; gives = λ _. [] })) c not_such refl no_local_at

pub stmts_row : (c : Ahead) → begins begins_stmt (next_kind c) ≡ true → rule f.stmts (front c.rest) ≡ Some (record { row = form f.stmt ∷ form f.stmts ∷ []; gives = λ (x, (more, _)). x ∷ more })
unfolding rule stmts_rule
stmts_row c such = by_true begins_stmt (λ at. Some (record { row = form f.stmt ∷ form f.stmts ∷ []; gives = λ (x, (more, _)). x ∷ more })) c such (λ t k of such. rw of (rw such refl))

pub no_stmts_row : (c : Ahead) → begins begins_stmt (next_kind c) ≡ false → rule f.stmts (front c.rest) ≡ Some (record { row = []; gives = λ _. [] })
unfolding rule stmts_rule
no_stmts_row c not_such = by_false begins_stmt (Some (record { row = []; gives = λ _. [] })) c not_such refl (λ t k of not_such. rw of (rw not_such refl))

-- ---- statements

pub stmt_end : (c : Ahead) → next_kind c ≡ None → rule f.stmt (front c.rest) ≡ None
unfolding rule stmt_rule
stmt_end c none = by_end None c none refl

pub empty_row : (c : Ahead) → next_kind c ≡ Some (kinds.Mark m.Semicolon) → rule f.stmt (front c.rest) ≡ Some (record { row = sign m.Semicolon ∷ []; gives = λ _. s.Empty (place_at c) })
unfolding rule stmt_rule
empty_row c known = by_kind (λ at. Some (record { row = sign m.Semicolon ∷ []; gives = λ _. s.Empty at })) c (kinds.Mark m.Semicolon) known (λ t of. rw of refl)

pub block_stmt_row : (c : Ahead) → next_kind c ≡ Some (kinds.Mark m.BraceOpen) → rule f.stmt (front c.rest) ≡ Some (record { row = form f.block ∷ []; gives = λ (b, _). s.Block b })
unfolding rule stmt_rule
block_stmt_row c known = by_kind (λ at. Some (record { row = form f.block ∷ []; gives = λ (b, _). s.Block b })) c (kinds.Mark m.BraceOpen) known (λ t of. rw of refl)

pub delay_row : (c : Ahead) → next_kind c ≡ Some kinds.Delay → rule f.stmt (front c.rest) ≡ Some (record { row = mark kinds.Delay ∷ sign m.Semicolon ∷ []; gives = λ _. s.Delay (place_at c) })
unfolding rule stmt_rule
delay_row c known = by_kind (λ at. Some (record { row = mark kinds.Delay ∷ sign m.Semicolon ∷ []; gives = λ _. s.Delay at })) c kinds.Delay known (λ t of. rw of refl)

pub while_row : (c : Ahead) → next_kind c ≡ Some kinds.While → rule f.stmt (front c.rest) ≡ Some (record { row = mark kinds.While ∷ sign m.ParenOpen ∷ form f.expr ∷ sign m.ParenClose ∷ form f.stmt ∷ []; gives = λ (e, (a, _)). s.While (place_at c) e a })
unfolding rule stmt_rule
while_row c known = by_kind (λ at. Some (record { row = mark kinds.While ∷ sign m.ParenOpen ∷ form f.expr ∷ sign m.ParenClose ∷ form f.stmt ∷ []; gives = λ (e, (a, _)). s.While at e a })) c kinds.While known (λ t of. rw of refl)

pub do_row : (c : Ahead) → next_kind c ≡ Some kinds.Do → rule f.stmt (front c.rest) ≡ Some (record { row = mark kinds.Do ∷ form f.stmt ∷ mark kinds.While ∷ sign m.ParenOpen ∷ form f.expr ∷ sign m.ParenClose ∷ sign m.Semicolon ∷ []; gives = λ (a, (e, _)). s.DoWhile (place_at c) a e })
unfolding rule stmt_rule
do_row c known = by_kind (λ at. Some (record { row = mark kinds.Do ∷ form f.stmt ∷ mark kinds.While ∷ sign m.ParenOpen ∷ form f.expr ∷ sign m.ParenClose ∷ sign m.Semicolon ∷ []; gives = λ (a, (e, _)). s.DoWhile at a e })) c kinds.Do known (λ t of. rw of refl)

pub for_row : (c : Ahead) → next_kind c ≡ Some kinds.For → rule f.stmt (front c.rest) ≡ Some (record { row = mark kinds.For ∷ sign m.ParenOpen ∷ form f.opt_simple ∷ sign m.Semicolon ∷ form f.opt_expr ∷ sign m.Semicolon ∷ form f.opt_simple ∷ sign m.ParenClose ∷ form f.stmt ∷ []; gives = λ (a, (e, (b, (body, _)))). s.For (place_at c) a e b body })
unfolding rule stmt_rule
for_row c known = by_kind (λ at. Some (record { row = mark kinds.For ∷ sign m.ParenOpen ∷ form f.opt_simple ∷ sign m.Semicolon ∷ form f.opt_expr ∷ sign m.Semicolon ∷ form f.opt_simple ∷ sign m.ParenClose ∷ form f.stmt ∷ []; gives = λ (a, (e, (b, (body, _)))). s.For at a e b body })) c kinds.For known (λ t of. rw of refl)

pub switch_row : (c : Ahead) → next_kind c ≡ Some kinds.Switch → rule f.stmt (front c.rest) ≡ Some (record { row = mark kinds.Switch ∷ sign m.ParenOpen ∷ form f.expr ∷ sign m.ParenClose ∷ sign m.BraceOpen ∷ form (f.arms false) ∷ sign m.BraceClose ∷ []; gives = λ (e, (arms, _)). s.Switch (place_at c) e arms })
unfolding rule stmt_rule
switch_row c known = by_kind (λ at. Some (record { row = mark kinds.Switch ∷ sign m.ParenOpen ∷ form f.expr ∷ sign m.ParenClose ∷ sign m.BraceOpen ∷ form (f.arms false) ∷ sign m.BraceClose ∷ []; gives = λ (e, (arms, _)). s.Switch at e arms })) c kinds.Switch known (λ t of. rw of refl)

pub prialt_row : (c : Ahead) → next_kind c ≡ Some kinds.Prialt → rule f.stmt (front c.rest) ≡ Some (record { row = mark kinds.Prialt ∷ sign m.BraceOpen ∷ form f.cases ∷ sign m.BraceClose ∷ []; gives = λ (cases, _). s.Prialt (place_at c) cases.0 cases.1 })
unfolding rule stmt_rule
prialt_row c known = by_kind (λ at. Some (record { row = mark kinds.Prialt ∷ sign m.BraceOpen ∷ form f.cases ∷ sign m.BraceClose ∷ []; gives = λ (cases, _). s.Prialt at cases.0 cases.1 })) c kinds.Prialt known (λ t of. rw of refl)

pub if_row : (word : Condition) (c : Ahead) → next_kind c ≡ Some (condition_word word) → rule f.stmt (front c.rest) ≡ Some (record { row = mark (condition_word word) ∷ sign m.ParenOpen ∷ form f.expr ∷ sign m.ParenClose ∷ form f.stmt ∷ form f.else_tail ∷ []; gives = λ (e, (a, (b, _))). s.If (place_at c) word e a b })
unfolding rule stmt_rule
if_row condition.If c known = by_kind (λ at. Some (record { row = mark kinds.If ∷ sign m.ParenOpen ∷ form f.expr ∷ sign m.ParenClose ∷ form f.stmt ∷ form f.else_tail ∷ []; gives = λ (e, (a, (b, _))). s.If at condition.If e a b })) c kinds.If known (λ t of. rw of refl)
if_row condition.IfSelect c known = by_kind (λ at. Some (record { row = mark kinds.IfSelect ∷ sign m.ParenOpen ∷ form f.expr ∷ sign m.ParenClose ∷ form f.stmt ∷ form f.else_tail ∷ []; gives = λ (e, (a, (b, _))). s.If at condition.IfSelect e a b })) c kinds.IfSelect known (λ t of. rw of refl)

pub ordered_row : (o : Order) (c : Ahead) → next_kind c ≡ Some (order_word o) → rule f.stmt (front c.rest) ≡ Some (record { row = mark (order_word o) ∷ form (f.order_tail o) ∷ []; gives = λ (tail, _). tail (place_at c) })
unfolding rule stmt_rule
ordered_row order.Seq c known = by_kind (λ at. Some (record { row = mark kinds.Seq ∷ form (f.order_tail order.Seq) ∷ []; gives = λ (tail, _). tail at })) c kinds.Seq known (λ t of. rw of refl)
ordered_row order.Par c known = by_kind (λ at. Some (record { row = mark kinds.Par ∷ form (f.order_tail order.Par) ∷ []; gives = λ (tail, _). tail at })) c kinds.Par known (λ t of. rw of refl)

step_at : (t : Placed) (k : Kind) → kind t ≡ k → is_step k ≡ true → rule f.stmt (Some t) ≡ Some (record { row = form f.simple ∷ sign m.Semicolon ∷ []; gives = λ (x, _). s.Simple x })
unfolding rule stmt_rule is_step
step_at t (kinds.Mark m.Increment) of such = rw of refl
step_at t (kinds.Mark m.Decrement) of such = rw of refl
step_at t _ of such = absurd cc

pub step_up : (c : Ahead) → next_kind c ≡ Some (kinds.Mark m.Increment) → begins is_step (next_kind c) ≡ true
unfolding is_step
step_up c known = rw known refl

pub step_down : (c : Ahead) → next_kind c ≡ Some (kinds.Mark m.Decrement) → begins is_step (next_kind c) ≡ true
unfolding is_step
step_down c known = rw known refl

pub step_row : (c : Ahead) → begins is_step (next_kind c) ≡ true → rule f.stmt (front c.rest) ≡ Some (record { row = form f.simple ∷ sign m.Semicolon ∷ []; gives = λ (x, _). s.Simple x })
step_row c such = by_true is_step (λ at. Some (record { row = form f.simple ∷ sign m.Semicolon ∷ []; gives = λ (x, _). s.Simple x })) c such step_at

named_at : (t : Placed) (k : Kind) → kind t ≡ k → is_name k ≡ true → rule f.stmt (Some t) ≡ Some (record { row = form f.name ∷ form f.name_stmt_tail ∷ []; gives = λ (x, (tail, _)). tail x })
unfolding rule stmt_rule is_name
named_at t kinds.Main of such = rw of refl
named_at t kinds.Clock of such = rw of refl
named_at t kinds.Family of such = rw of refl
named_at t kinds.Part of such = rw of refl
named_at t kinds.Expr of such = rw of refl
named_at t kinds.Proc of such = rw of refl
named_at t kinds.BusIn of such = rw of refl
named_at t kinds.BusOut of such = rw of refl
named_at t kinds.Name of such = rw of refl
named_at t _ of such = absurd cc

pub named_row : (c : Ahead) → begins is_name (next_kind c) ≡ true → rule f.stmt (front c.rest) ≡ Some (record { row = form f.name ∷ form f.name_stmt_tail ∷ []; gives = λ (x, (tail, _)). tail x })
named_row c such = by_true is_name (λ at. Some (record { row = form f.name ∷ form f.name_stmt_tail ∷ []; gives = λ (x, (tail, _)). tail x })) c such named_at

no_stmt_at : (t : Placed) (k : Kind) → kind t ≡ k → begins_stmt k ≡ false → rule f.stmt (Some t) ≡ None
unfolding rule stmt_rule begins_stmt is_name
no_stmt_at t kinds.Seq of not_such = absurd cc
no_stmt_at t kinds.Par of not_such = absurd cc
no_stmt_at t kinds.Delay of not_such = absurd cc
no_stmt_at t kinds.If of not_such = absurd cc
no_stmt_at t kinds.IfSelect of not_such = absurd cc
no_stmt_at t kinds.While of not_such = absurd cc
no_stmt_at t kinds.Do of not_such = absurd cc
no_stmt_at t kinds.For of not_such = absurd cc
no_stmt_at t kinds.Switch of not_such = absurd cc
no_stmt_at t kinds.Prialt of not_such = absurd cc
no_stmt_at t kinds.Main of not_such = absurd cc
no_stmt_at t kinds.Clock of not_such = absurd cc
no_stmt_at t kinds.Family of not_such = absurd cc
no_stmt_at t kinds.Part of not_such = absurd cc
no_stmt_at t kinds.Expr of not_such = absurd cc
no_stmt_at t kinds.Proc of not_such = absurd cc
no_stmt_at t kinds.BusIn of not_such = absurd cc
no_stmt_at t kinds.BusOut of not_such = absurd cc
no_stmt_at t kinds.Name of not_such = absurd cc
no_stmt_at t (kinds.Mark m.Semicolon) of not_such = absurd cc
no_stmt_at t (kinds.Mark m.BraceOpen) of not_such = absurd cc
no_stmt_at t (kinds.Mark m.Increment) of not_such = absurd cc
no_stmt_at t (kinds.Mark m.Decrement) of not_such = absurd cc
no_stmt_at t _ of not_such = rw of refl

pub no_stmt : (c : Ahead) → begins begins_stmt (next_kind c) ≡ false → rule f.stmt (front c.rest) ≡ None
unfolding rule stmt_rule
no_stmt c not_such = by_false begins_stmt None c not_such refl no_stmt_at

-- neither a name, nor such a word, nor such a mark
pub no_marked : (c : Ahead) → begins begins_worded (next_kind c) ≡ false → next_kind c ≢ Some (kinds.Mark m.Semicolon) → next_kind c ≢ Some (kinds.Mark m.BraceOpen) → next_kind c ≢ Some (kinds.Mark m.Increment) → next_kind c ≢ Some (kinds.Mark m.Decrement) → rule f.stmt (front c.rest) ≡ None
unfolding begins_worded begins_stmt is_name
no_marked c other a b d e = no_stmt c (at (next_kind c) other a b d e)
  where
    at : (o : Option Kind) → begins begins_worded o ≡ false → o ≢ Some (kinds.Mark m.Semicolon) → o ≢ Some (kinds.Mark m.BraceOpen) → o ≢ Some (kinds.Mark m.Increment) → o ≢ Some (kinds.Mark m.Decrement) → begins begins_stmt o ≡ false
    at None other a b d e = refl
    at (Some kinds.Seq) other a b d e = absurd cc
    at (Some kinds.Par) other a b d e = absurd cc
    at (Some kinds.Delay) other a b d e = absurd cc
    at (Some kinds.If) other a b d e = absurd cc
    at (Some kinds.IfSelect) other a b d e = absurd cc
    at (Some kinds.While) other a b d e = absurd cc
    at (Some kinds.Do) other a b d e = absurd cc
    at (Some kinds.For) other a b d e = absurd cc
    at (Some kinds.Switch) other a b d e = absurd cc
    at (Some kinds.Prialt) other a b d e = absurd cc
    at (Some kinds.Main) other a b d e = absurd cc
    at (Some kinds.Clock) other a b d e = absurd cc
    at (Some kinds.Family) other a b d e = absurd cc
    at (Some kinds.Part) other a b d e = absurd cc
    at (Some kinds.Expr) other a b d e = absurd cc
    at (Some kinds.Proc) other a b d e = absurd cc
    at (Some kinds.BusIn) other a b d e = absurd cc
    at (Some kinds.BusOut) other a b d e = absurd cc
    at (Some kinds.Name) other a b d e = absurd cc
    at (Some (kinds.Mark m.Semicolon)) other a b d e = absurd (a refl)
    at (Some (kinds.Mark m.BraceOpen)) other a b d e = absurd (b refl)
    at (Some (kinds.Mark m.Increment)) other a b d e = absurd (d refl)
    at (Some (kinds.Mark m.Decrement)) other a b d e = absurd (e refl)
    at (Some _) other a b d e = refl

pub is_other : (c : Ahead) (k : Kind) → next_kind c ≡ Some k → is_name k ≡ false → next_kind c ≢ Some kinds.Seq → next_kind c ≢ Some kinds.Par → next_kind c ≢ Some kinds.Delay → next_kind c ≢ Some kinds.If → next_kind c ≢ Some kinds.IfSelect → next_kind c ≢ Some kinds.While → next_kind c ≢ Some kinds.Do → next_kind c ≢ Some kinds.For → next_kind c ≢ Some kinds.Switch → next_kind c ≢ Some kinds.Prialt → begins begins_worded (next_kind c) ≡ false
unfolding begins_worded
is_other c k known not_name a b d e g h i j l n = ap (begins begins_worded) known ∙ at k not_name (differs c k kinds.Seq known a) (differs c k kinds.Par known b) (differs c k kinds.Delay known d) (differs c k kinds.If known e) (differs c k kinds.IfSelect known g) (differs c k kinds.While known h) (differs c k kinds.Do known i) (differs c k kinds.For known j) (differs c k kinds.Switch known l) (differs c k kinds.Prialt known n)
  where
    at : (k : Kind) → is_name k ≡ false → k ≢ kinds.Seq → k ≢ kinds.Par → k ≢ kinds.Delay → k ≢ kinds.If → k ≢ kinds.IfSelect → k ≢ kinds.While → k ≢ kinds.Do → k ≢ kinds.For → k ≢ kinds.Switch → k ≢ kinds.Prialt → begins_worded k ≡ false
    at kinds.Seq not_name a b d e g h i j l n = absurd (a refl)
    at kinds.Par not_name a b d e g h i j l n = absurd (b refl)
    at kinds.Delay not_name a b d e g h i j l n = absurd (d refl)
    at kinds.If not_name a b d e g h i j l n = absurd (e refl)
    at kinds.IfSelect not_name a b d e g h i j l n = absurd (g refl)
    at kinds.While not_name a b d e g h i j l n = absurd (h refl)
    at kinds.Do not_name a b d e g h i j l n = absurd (i refl)
    at kinds.For not_name a b d e g h i j l n = absurd (j refl)
    at kinds.Switch not_name a b d e g h i j l n = absurd (l refl)
    at kinds.Prialt not_name a b d e g h i j l n = absurd (n refl)
    at _ not_name a b d e g h i j l n = not_name

-- ---- behind `else`, `seq` and `par`

pub else_row : (c : Ahead) → next_kind c ≡ Some kinds.Else → rule f.else_tail (front c.rest) ≡ Some (record { row = mark kinds.Else ∷ form f.stmt ∷ []; gives = λ (x, _). Some x })
unfolding rule else_tail_rule
else_row c known = by_kind (λ at. Some (record { row = mark kinds.Else ∷ form f.stmt ∷ []; gives = λ (x, _). Some x })) c kinds.Else known (λ t of. rw of refl)

no_else_row_at : (t : Placed) (k : Kind) → kind t ≡ k → k ≢ kinds.Else → rule f.else_tail (Some t) ≡ Some (record { row = []; gives = λ _. None })
unfolding rule else_tail_rule
no_else_row_at t kinds.Else of o0 = absurd (o0 refl)
no_else_row_at t _ of o0 = rw of refl

pub no_else_row : (c : Ahead) → next_kind c ≢ Some kinds.Else → rule f.else_tail (front c.rest) ≡ Some (record { row = []; gives = λ _. None })
unfolding rule else_tail_rule
no_else_row c o0 = by_all (Some (record { row = []; gives = λ _. None })) c refl (λ t k known of. no_else_row_at t k of (differs c k kinds.Else known o0))

pub replicator_row : (o : Order) (c : Ahead) → next_kind c ≡ Some (kinds.Mark m.ParenOpen) → rule (f.order_tail o) (front c.rest) ≡ Some (record { row = sign m.ParenOpen ∷ form f.name ∷ sign m.Assign ∷ form f.expr ∷ sign m.Semicolon ∷ form f.expr ∷ sign m.Semicolon ∷ form f.simple ∷ sign m.ParenClose ∷ form f.block ∷ []; gives = λ (x, (first, (e, (next, (body, _))))) at. s.Replicator at o x first e next body })
unfolding rule order_tail_rule
replicator_row o c known = by_kind (λ at. Some (record { row = sign m.ParenOpen ∷ form f.name ∷ sign m.Assign ∷ form f.expr ∷ sign m.Semicolon ∷ form f.expr ∷ sign m.Semicolon ∷ form f.simple ∷ sign m.ParenClose ∷ form f.block ∷ []; gives = λ (x, (first, (e, (next, (body, _))))) at. s.Replicator at o x first e next body })) c (kinds.Mark m.ParenOpen) known (λ t of. rw of refl)

in_order_at : (o : Order) (t : Placed) (k : Kind) → kind t ≡ k → k ≢ kinds.Mark m.ParenOpen → rule (f.order_tail o) (Some t) ≡ Some (record { row = form f.block ∷ []; gives = λ (body, _) at. in_order o at body })
unfolding rule order_tail_rule
in_order_at o t (kinds.Mark m.ParenOpen) of other = absurd (other refl)
in_order_at o t _ of other = rw of refl

pub in_order_row : (o : Order) (c : Ahead) (k : Kind) → next_kind c ≡ Some k → next_kind c ≢ Some (kinds.Mark m.ParenOpen) → rule (f.order_tail o) (front c.rest) ≡ Some (record { row = form f.block ∷ []; gives = λ (body, _) at. in_order o at body })
in_order_row o c k known other = by_kind (λ at. Some (record { row = form f.block ∷ []; gives = λ (body, _) at. in_order o at body })) c k known (λ t of. in_order_at o t k of (differs c k (kinds.Mark m.ParenOpen) known other))

pub order_end : (o : Order) (c : Ahead) → next_kind c ≡ None → rule (f.order_tail o) (front c.rest) ≡ None
unfolding rule order_tail_rule
order_end o c none = by_end None c none refl

-- ---- behind a name

pub name_stmt_end : (c : Ahead) → next_kind c ≡ None → rule f.name_stmt_tail (front c.rest) ≡ None
unfolding rule name_stmt_tail_rule
name_stmt_end c none = by_end None c none refl

pub send_row : (c : Ahead) → next_kind c ≡ Some (kinds.Mark m.Not) → rule f.name_stmt_tail (front c.rest) ≡ Some (record { row = sign m.Not ∷ form f.expr ∷ sign m.Semicolon ∷ []; gives = λ (v, _) x. s.Send x.place x v })
unfolding rule name_stmt_tail_rule
send_row c known = by_kind (λ at. Some (record { row = sign m.Not ∷ form f.expr ∷ sign m.Semicolon ∷ []; gives = λ (v, _) x. s.Send x.place x v })) c (kinds.Mark m.Not) known (λ t of. rw of refl)

pub receive_row : (c : Ahead) → next_kind c ≡ Some (kinds.Mark m.Question) → rule f.name_stmt_tail (front c.rest) ≡ Some (record { row = sign m.Question ∷ form f.target ∷ sign m.Semicolon ∷ []; gives = λ (to, _) x. s.Receive x.place x to })
unfolding rule name_stmt_tail_rule
receive_row c known = by_kind (λ at. Some (record { row = sign m.Question ∷ form f.target ∷ sign m.Semicolon ∷ []; gives = λ (to, _) x. s.Receive x.place x to })) c (kinds.Mark m.Question) known (λ t of. rw of refl)

pub call_row : (c : Ahead) → next_kind c ≡ Some (kinds.Mark m.ParenOpen) → rule f.name_stmt_tail (front c.rest) ≡ Some (record { row = sign m.ParenOpen ∷ form f.args ∷ sign m.ParenClose ∷ sign m.Semicolon ∷ []; gives = λ (arguments, _) x. s.Call x.place x arguments })
unfolding rule name_stmt_tail_rule
call_row c known = by_kind (λ at. Some (record { row = sign m.ParenOpen ∷ form f.args ∷ sign m.ParenClose ∷ sign m.Semicolon ∷ []; gives = λ (arguments, _) x. s.Call x.place x arguments })) c (kinds.Mark m.ParenOpen) known (λ t of. rw of refl)

written_at : (t : Placed) (k : Kind) → kind t ≡ k → begins_written k ≡ true → rule f.name_stmt_tail (Some t) ≡ Some (record { row = form f.index ∷ form f.simple_tail ∷ sign m.Semicolon ∷ []; gives = λ (i, (tail, _)) x. s.Simple (tail (record { name = x; index = i })) })
unfolding rule name_stmt_tail_rule begins_written
written_at t (kinds.Mark m.Not) of such = absurd cc
written_at t (kinds.Mark m.Question) of such = absurd cc
written_at t (kinds.Mark m.ParenOpen) of such = absurd cc
written_at t _ of such = rw of refl

pub written_row : (c : Ahead) → begins begins_written (next_kind c) ≡ true → rule f.name_stmt_tail (front c.rest) ≡ Some (record { row = form f.index ∷ form f.simple_tail ∷ sign m.Semicolon ∷ []; gives = λ (i, (tail, _)) x. s.Simple (tail (record { name = x; index = i })) })
written_row c such = by_true begins_written (λ at. Some (record { row = form f.index ∷ form f.simple_tail ∷ sign m.Semicolon ∷ []; gives = λ (i, (tail, _)) x. s.Simple (tail (record { name = x; index = i })) })) c such written_at

pub is_written : (c : Ahead) (k : Kind) → next_kind c ≡ Some k → next_kind c ≢ Some (kinds.Mark m.Not) → next_kind c ≢ Some (kinds.Mark m.Question)
    → next_kind c ≢ Some (kinds.Mark m.ParenOpen) → begins begins_written (next_kind c) ≡ true
unfolding begins_written
is_written c k known a b d = ap (begins begins_written) known ∙ at k (differs c k (kinds.Mark m.Not) known a) (differs c k (kinds.Mark m.Question) known b) (differs c k (kinds.Mark m.ParenOpen) known d)
  where
    at : (k : Kind) → k ≢ kinds.Mark m.Not → k ≢ kinds.Mark m.Question → k ≢ kinds.Mark m.ParenOpen → begins_written k ≡ true
    at (kinds.Mark m.Not) a b d = absurd (a refl)
    at (kinds.Mark m.Question) a b d = absurd (b refl)
    at (kinds.Mark m.ParenOpen) a b d = absurd (d refl)
    at _ a b d = refl

-- ---- `switch`

pub arm_case_row : (d : Bool) (c : Ahead) → next_kind c ≡ Some kinds.Case → rule (f.arms d) (front c.rest) ≡ Some (record { row = mark kinds.Case ∷ form f.expr ∷ sign m.Colon ∷ form (f.arm_tail d) ∷ []; gives = λ (e, (tail, _)). roll-Arm (record { place = place_at c; labels = label.Case (place_at c) e ∷ tail.labels; stmts = tail.stmts; has_break = tail.has_break }) ∷ tail.arms })
unfolding rule arms_rule
arm_case_row true c known = by_kind (λ at. Some (record { row = mark kinds.Case ∷ form f.expr ∷ sign m.Colon ∷ form (f.arm_tail true) ∷ []; gives = λ (e, (tail, _)). roll-Arm (record { place = at; labels = label.Case at e ∷ tail.labels; stmts = tail.stmts; has_break = tail.has_break }) ∷ tail.arms })) c kinds.Case known (λ t of. rw of refl)
arm_case_row false c known = by_kind (λ at. Some (record { row = mark kinds.Case ∷ form f.expr ∷ sign m.Colon ∷ form (f.arm_tail false) ∷ []; gives = λ (e, (tail, _)). roll-Arm (record { place = at; labels = label.Case at e ∷ tail.labels; stmts = tail.stmts; has_break = tail.has_break }) ∷ tail.arms })) c kinds.Case known (λ t of. rw of refl)

pub arm_default_row : (c : Ahead) → next_kind c ≡ Some kinds.Default → rule (f.arms false) (front c.rest) ≡ Some (record { row = mark kinds.Default ∷ sign m.Colon ∷ form (f.arm_tail true) ∷ []; gives = λ (tail, _). roll-Arm (record { place = place_at c; labels = label.Default (place_at c) ∷ tail.labels; stmts = tail.stmts; has_break = tail.has_break }) ∷ tail.arms })
unfolding rule arms_rule
arm_default_row c known = by_kind (λ at. Some (record { row = mark kinds.Default ∷ sign m.Colon ∷ form (f.arm_tail true) ∷ []; gives = λ (tail, _). roll-Arm (record { place = at; labels = label.Default at ∷ tail.labels; stmts = tail.stmts; has_break = tail.has_break }) ∷ tail.arms })) c kinds.Default known (λ t of. rw of refl)

pub tail_case_row : (d : Bool) (c : Ahead) → next_kind c ≡ Some kinds.Case → rule (f.arm_tail d) (front c.rest) ≡ Some (record { row = mark kinds.Case ∷ form f.expr ∷ sign m.Colon ∷ form (f.arm_tail d) ∷ []; gives = λ (e, (tail, _)). record { labels = label.Case (place_at c) e ∷ tail.labels; stmts = tail.stmts; has_break = tail.has_break; arms = tail.arms } })
unfolding rule arm_tail_rule
tail_case_row true c known = by_kind (λ at. Some (record { row = mark kinds.Case ∷ form f.expr ∷ sign m.Colon ∷ form (f.arm_tail true) ∷ []; gives = λ (e, (tail, _)). record { labels = label.Case at e ∷ tail.labels; stmts = tail.stmts; has_break = tail.has_break; arms = tail.arms } })) c kinds.Case known (λ t of. rw of refl)
tail_case_row false c known = by_kind (λ at. Some (record { row = mark kinds.Case ∷ form f.expr ∷ sign m.Colon ∷ form (f.arm_tail false) ∷ []; gives = λ (e, (tail, _)). record { labels = label.Case at e ∷ tail.labels; stmts = tail.stmts; has_break = tail.has_break; arms = tail.arms } })) c kinds.Case known (λ t of. rw of refl)

pub tail_default_row : (c : Ahead) → next_kind c ≡ Some kinds.Default → rule (f.arm_tail false) (front c.rest) ≡ Some (record { row = mark kinds.Default ∷ sign m.Colon ∷ form (f.arm_tail true) ∷ []; gives = λ (tail, _). record { labels = label.Default (place_at c) ∷ tail.labels; stmts = tail.stmts; has_break = tail.has_break; arms = tail.arms } })
unfolding rule arm_tail_rule
tail_default_row c known = by_kind (λ at. Some (record { row = mark kinds.Default ∷ sign m.Colon ∷ form (f.arm_tail true) ∷ []; gives = λ (tail, _). record { labels = label.Default at ∷ tail.labels; stmts = tail.stmts; has_break = tail.has_break; arms = tail.arms } })) c kinds.Default known (λ t of. rw of refl)

no_arm_at : (d : Bool) (t : Placed) (k : Kind) → kind t ≡ k → begins_label d k ≡ false → rule (f.arms d) (Some t) ≡ Some (record { row = []; gives = λ _. [] })
unfolding rule arms_rule begins_label
no_arm_at true t kinds.Case of not_such = absurd cc
no_arm_at true t _ of not_such = rw of refl
no_arm_at false t kinds.Case of not_such = absurd cc
no_arm_at false t kinds.Default of not_such = absurd cc
no_arm_at false t _ of not_such = rw of refl

pub no_arm_row : (d : Bool) (c : Ahead) → begins (begins_label d) (next_kind c) ≡ false → rule (f.arms d) (front c.rest) ≡ Some (record { row = []; gives = λ _. [] })
unfolding rule arms_rule
no_arm_row d c not_such = by_false (begins_label d) (Some (record { row = []; gives = λ _. [] })) c not_such refl (no_arm_at d)

no_label_at : (d : Bool) (t : Placed) (k : Kind) → kind t ≡ k → begins_label d k ≡ false → rule (f.arm_tail d) (Some t) ≡ Some (record { row = form f.stmts ∷ form (f.arm_end d) ∷ []; gives = λ (stmts, (end, _)). record { labels = []; stmts = stmts; has_break = end.0; arms = end.1 } })
unfolding rule arm_tail_rule begins_label
no_label_at true t kinds.Case of not_such = absurd cc
no_label_at true t _ of not_such = rw of refl
no_label_at false t kinds.Case of not_such = absurd cc
no_label_at false t kinds.Default of not_such = absurd cc
no_label_at false t _ of not_such = rw of refl

pub no_label_row : (d : Bool) (c : Ahead) → begins (begins_label d) (next_kind c) ≡ false → rule (f.arm_tail d) (front c.rest) ≡ Some (record { row = form f.stmts ∷ form (f.arm_end d) ∷ []; gives = λ (stmts, (end, _)). record { labels = []; stmts = stmts; has_break = end.0; arms = end.1 } })
unfolding rule arm_tail_rule
no_label_row d c not_such = by_false (begins_label d) (Some (record { row = form f.stmts ∷ form (f.arm_end d) ∷ []; gives = λ (stmts, (end, _)). record { labels = []; stmts = stmts; has_break = end.0; arms = end.1 } })) c not_such refl (no_label_at d)

pub break_row : (d : Bool) (c : Ahead) → next_kind c ≡ Some kinds.Break → rule (f.arm_end d) (front c.rest) ≡ Some (record { row = mark kinds.Break ∷ sign m.Semicolon ∷ form (f.arms d) ∷ []; gives = λ (arms, _). (true, arms) })
unfolding rule arm_end_rule
break_row d c known = by_kind (λ at. Some (record { row = mark kinds.Break ∷ sign m.Semicolon ∷ form (f.arms d) ∷ []; gives = λ (arms, _). (true, arms) })) c kinds.Break known (λ t of. rw of refl)

no_break_row_at : (d : Bool) (t : Placed) (k : Kind) → kind t ≡ k → k ≢ kinds.Break → rule (f.arm_end d) (Some t) ≡ Some (record { row = []; gives = λ _. (false, []) })
unfolding rule arm_end_rule
no_break_row_at d t kinds.Break of o0 = absurd (o0 refl)
no_break_row_at d t _ of o0 = rw of refl

pub no_break_row : (d : Bool) (c : Ahead) → next_kind c ≢ Some kinds.Break → rule (f.arm_end d) (front c.rest) ≡ Some (record { row = []; gives = λ _. (false, []) })
unfolding rule arm_end_rule
no_break_row d c o0 = by_all (Some (record { row = []; gives = λ _. (false, []) })) c refl (λ t k known of. no_break_row_at d t k of (differs c k kinds.Break known o0))

-- ---- `prialt`

pub cases_row : (c : Ahead) → next_kind c ≡ Some kinds.Case → rule f.cases (front c.rest) ≡ Some (record { row = mark kinds.Case ∷ form f.name ∷ form f.offer ∷ sign m.Colon ∷ form f.stmts ∷ form f.case_end ∷ []; gives = λ (x, (o, (stmts, (end, _)))). (roll-Case (record { place = (place_at c); channel = x; offer = o; stmts = stmts; has_break = end.has_break }) ∷ end.cases, end.other) })
unfolding rule cases_rule
cases_row c known = by_kind (λ at. Some (record { row = mark kinds.Case ∷ form f.name ∷ form f.offer ∷ sign m.Colon ∷ form f.stmts ∷ form f.case_end ∷ []; gives = λ (x, (o, (stmts, (end, _)))). (roll-Case (record { place = at; channel = x; offer = o; stmts = stmts; has_break = end.has_break }) ∷ end.cases, end.other) })) c kinds.Case known (λ t of. rw of refl)

pub case_row : (c : Ahead) → next_kind c ≡ Some kinds.Case → rule f.more_cases (front c.rest) ≡ Some (record { row = mark kinds.Case ∷ form f.name ∷ form f.offer ∷ sign m.Colon ∷ form f.stmts ∷ form f.case_end ∷ []; gives = λ (x, (o, (stmts, (end, _)))). (roll-Case (record { place = (place_at c); channel = x; offer = o; stmts = stmts; has_break = end.has_break }) ∷ end.cases, end.other) })
unfolding rule more_cases_rule
case_row c known = by_kind (λ at. Some (record { row = mark kinds.Case ∷ form f.name ∷ form f.offer ∷ sign m.Colon ∷ form f.stmts ∷ form f.case_end ∷ []; gives = λ (x, (o, (stmts, (end, _)))). (roll-Case (record { place = at; channel = x; offer = o; stmts = stmts; has_break = end.has_break }) ∷ end.cases, end.other) })) c kinds.Case known (λ t of. rw of refl)

no_cases_at : (t : Placed) (k : Kind) → kind t ≡ k → k ≢ kinds.Case → rule f.cases (Some t) ≡ None
unfolding rule cases_rule
no_cases_at t kinds.Case of o0 = absurd (o0 refl)
no_cases_at t _ of o0 = rw of refl

pub no_cases : (c : Ahead) → next_kind c ≢ Some kinds.Case → rule f.cases (front c.rest) ≡ None
unfolding rule cases_rule
no_cases c o0 = by_all None c refl (λ t k known of. no_cases_at t k of (differs c k kinds.Case known o0))

pub other_row : (c : Ahead) → next_kind c ≡ Some kinds.Default → rule f.more_cases (front c.rest) ≡ Some (record { row = mark kinds.Default ∷ sign m.Colon ∷ form f.stmts ∷ form f.other_end ∷ []; gives = λ (stmts, (has_break, _)). ([], Some (roll-Other (record { place = (place_at c); stmts = stmts; has_break = has_break }))) })
unfolding rule more_cases_rule
other_row c known = by_kind (λ at. Some (record { row = mark kinds.Default ∷ sign m.Colon ∷ form f.stmts ∷ form f.other_end ∷ []; gives = λ (stmts, (has_break, _)). ([], Some (roll-Other (record { place = at; stmts = stmts; has_break = has_break }))) })) c kinds.Default known (λ t of. rw of refl)

no_more_row_at : (t : Placed) (k : Kind) → kind t ≡ k → k ≢ kinds.Case → k ≢ kinds.Default → rule f.more_cases (Some t) ≡ Some (record { row = []; gives = λ _. ([], None) })
unfolding rule more_cases_rule
no_more_row_at t kinds.Case of o0 o1 = absurd (o0 refl)
no_more_row_at t kinds.Default of o0 o1 = absurd (o1 refl)
no_more_row_at t _ of o0 o1 = rw of refl

pub no_more_row : (c : Ahead) → next_kind c ≢ Some kinds.Case → next_kind c ≢ Some kinds.Default → rule f.more_cases (front c.rest) ≡ Some (record { row = []; gives = λ _. ([], None) })
unfolding rule more_cases_rule
no_more_row c o0 o1 = by_all (Some (record { row = []; gives = λ _. ([], None) })) c refl (λ t k known of. no_more_row_at t k of (differs c k kinds.Case known o0) (differs c k kinds.Default known o1))

pub case_break_row : (c : Ahead) → next_kind c ≡ Some kinds.Break → rule f.case_end (front c.rest) ≡ Some (record { row = mark kinds.Break ∷ sign m.Semicolon ∷ form f.more_cases ∷ []; gives = λ (more, _). record { has_break = true; cases = more.0; other = more.1 } })
unfolding rule case_end_rule
case_break_row c known = by_kind (λ at. Some (record { row = mark kinds.Break ∷ sign m.Semicolon ∷ form f.more_cases ∷ []; gives = λ (more, _). record { has_break = true; cases = more.0; other = more.1 } })) c kinds.Break known (λ t of. rw of refl)

no_case_break_row_at : (t : Placed) (k : Kind) → kind t ≡ k → k ≢ kinds.Break → rule f.case_end (Some t) ≡ Some (record { row = []; gives = λ _. record { has_break = false; cases = []; other = None } })
unfolding rule case_end_rule
no_case_break_row_at t kinds.Break of o0 = absurd (o0 refl)
no_case_break_row_at t _ of o0 = rw of refl

pub no_case_break_row : (c : Ahead) → next_kind c ≢ Some kinds.Break → rule f.case_end (front c.rest) ≡ Some (record { row = []; gives = λ _. record { has_break = false; cases = []; other = None } })
unfolding rule case_end_rule
no_case_break_row c o0 = by_all (Some (record { row = []; gives = λ _. record { has_break = false; cases = []; other = None } })) c refl (λ t k known of. no_case_break_row_at t k of (differs c k kinds.Break known o0))

pub other_break_row : (c : Ahead) → next_kind c ≡ Some kinds.Break → rule f.other_end (front c.rest) ≡ Some (record { row = mark kinds.Break ∷ sign m.Semicolon ∷ []; gives = λ _. true })
unfolding rule other_end_rule
other_break_row c known = by_kind (λ at. Some (record { row = mark kinds.Break ∷ sign m.Semicolon ∷ []; gives = λ _. true })) c kinds.Break known (λ t of. rw of refl)

no_other_break_row_at : (t : Placed) (k : Kind) → kind t ≡ k → k ≢ kinds.Break → rule f.other_end (Some t) ≡ Some (record { row = []; gives = λ _. false })
unfolding rule other_end_rule
no_other_break_row_at t kinds.Break of o0 = absurd (o0 refl)
no_other_break_row_at t _ of o0 = rw of refl

pub no_other_break_row : (c : Ahead) → next_kind c ≢ Some kinds.Break → rule f.other_end (front c.rest) ≡ Some (record { row = []; gives = λ _. false })
unfolding rule other_end_rule
no_other_break_row c o0 = by_all (Some (record { row = []; gives = λ _. false })) c refl (λ t k known of. no_other_break_row_at t k of (differs c k kinds.Break known o0))

pub offer_send_row : (c : Ahead) → next_kind c ≡ Some (kinds.Mark m.Not) → rule f.offer (front c.rest) ≡ Some (record { row = sign m.Not ∷ form f.expr ∷ []; gives = λ (v, _). offer.Send v })
unfolding rule offer_rule
offer_send_row c known = by_kind (λ at. Some (record { row = sign m.Not ∷ form f.expr ∷ []; gives = λ (v, _). offer.Send v })) c (kinds.Mark m.Not) known (λ t of. rw of refl)

pub offer_receive_row : (c : Ahead) → next_kind c ≡ Some (kinds.Mark m.Question) → rule f.offer (front c.rest) ≡ Some (record { row = sign m.Question ∷ form f.target ∷ []; gives = λ (to, _). offer.Receive to })
unfolding rule offer_rule
offer_receive_row c known = by_kind (λ at. Some (record { row = sign m.Question ∷ form f.target ∷ []; gives = λ (to, _). offer.Receive to })) c (kinds.Mark m.Question) known (λ t of. rw of refl)

no_offer_at : (t : Placed) (k : Kind) → kind t ≡ k → k ≢ (kinds.Mark m.Not) → k ≢ (kinds.Mark m.Question) → rule f.offer (Some t) ≡ None
unfolding rule offer_rule
no_offer_at t (kinds.Mark m.Not) of o0 o1 = absurd (o0 refl)
no_offer_at t (kinds.Mark m.Question) of o0 o1 = absurd (o1 refl)
no_offer_at t _ of o0 o1 = rw of refl

pub no_offer : (c : Ahead) → next_kind c ≢ Some (kinds.Mark m.Not) → next_kind c ≢ Some (kinds.Mark m.Question) → rule f.offer (front c.rest) ≡ None
unfolding rule offer_rule
no_offer c o0 o1 = by_all None c refl (λ t k known of. no_offer_at t k of (differs c k (kinds.Mark m.Not) known o0) (differs c k (kinds.Mark m.Question) known o1))

-- ---- whether such a token is at the front

pub label_case : (d : Bool) (c : Ahead) → next_kind c ≡ Some kinds.Case → true ≡ begins (begins_label d) (next_kind c)
unfolding begins_label
label_case true c known = rw known refl
label_case false c known = rw known refl

label_never : (k : Kind) → k ≢ kinds.Case → false ≡ begins_label true k
unfolding begins_label
label_never kinds.Case other = absurd (other refl)
label_never _ other = refl

label_other : (k : Kind) → k ≢ kinds.Case → k ≢ kinds.Default → false ≡ begins_label false k
unfolding begins_label
label_other kinds.Case other third = absurd (other refl)
label_other kinds.Default other third = absurd (third refl)
label_other _ other third = refl

pub label_true : (c : Ahead) → next_kind c ≢ Some kinds.Case → false ≡ begins (begins_label true) (next_kind c)
label_true c other = at (next_kind c) other
  where
    at : (o : Option Kind) → o ≢ Some kinds.Case → false ≡ begins (begins_label true) o
    at None other = refl
    at (Some k) other = label_never k (λ same. other (ap Some same))

pub label_false : (c : Ahead) → next_kind c ≢ Some kinds.Case → (is : Bool) → (is ≡ true → next_kind c ≡ Some kinds.Default) → (is ≡ false → next_kind c ≢ Some kinds.Default)
    → is ≡ begins (begins_label false) (next_kind c)
unfolding begins_label
label_false c other true one two = rw (one refl) refl
label_false c other false one two = at (next_kind c) other (two refl)
  where
    at : (o : Option Kind) → o ≢ Some kinds.Case → o ≢ Some kinds.Default → false ≡ begins (begins_label false) o
    at None other third = refl
    at (Some k) other third = label_other k (λ same. other (ap Some same)) (λ same. third (ap Some same))

pub is_default : (d : Bool) (c : Ahead) → begins (begins_label d) (next_kind c) ≡ true → next_kind c ≢ Some kinds.Case → (d ≡ false) × (next_kind c ≡ Some kinds.Default)
unfolding begins_label
is_default true c label other = let never = label_true c other in absurd cc
is_default false c label other = at (next_kind c) label other
  where
    at : (o : Option Kind) → begins (begins_label false) o ≡ true → o ≢ Some kinds.Case → (false ≡ false) × (o ≡ Some kinds.Default)
    at None label other = absurd cc
    at (Some kinds.Case) label other = absurd (other refl)
    at (Some kinds.Default) label other = (refl, refl)
    at (Some _) label other = absurd cc

-- a macro begins, or a declaration
pub local_macro : (c : Ahead) → next_kind c ≡ Some kinds.Macro → true ≡ begins begins_local (next_kind c)
unfolding begins_local
local_macro c known = rw known refl

local_at : (k : Kind) → k ≢ kinds.Macro → begins_decl k ≡ begins_local k
unfolding begins_local
local_at kinds.Macro other = absurd (other refl)
local_at _ other = refl

pub local_other : (c : Ahead) (k : Kind) → next_kind c ≡ Some k → next_kind c ≢ Some kinds.Macro → begins_decl k ≡ begins begins_local (next_kind c)
local_other c k known other = local_at k (differs c k kinds.Macro known other) ∙ ap (begins begins_local) (sym known)

-- ---- macros

pub macro_end : (c : Ahead) → next_kind c ≡ None → rule f.«macro» (front c.rest) ≡ None
unfolding rule macro_rule
macro_end c none = by_end None c none refl

pub macro_row : (c : Ahead) (k : Kind) → next_kind c ≡ Some k → rule f.«macro» (front c.rest) ≡ Some (record { row = mark kinds.Macro ∷ form f.macro_tail ∷ []; gives = λ (tail, _). tail (place_at c) })
unfolding rule macro_rule
macro_row c k known = by_kind (λ at. Some (record { row = mark kinds.Macro ∷ form f.macro_tail ∷ []; gives = λ (tail, _). tail at })) c k known (λ t of. refl)

pub macro_expr_row : (c : Ahead) → next_kind c ≡ Some kinds.Expr → rule f.macro_tail (front c.rest) ≡ Some (record { row = mark kinds.Expr ∷ form f.name ∷ form f.opt_params ∷ sign m.Assign ∷ form f.expr ∷ sign m.Semicolon ∷ []; gives = λ (x, (params, (v, _))) at. macro.Expr at x params v })
unfolding rule macro_tail_rule
macro_expr_row c known = by_kind (λ at. Some (record { row = mark kinds.Expr ∷ form f.name ∷ form f.opt_params ∷ sign m.Assign ∷ form f.expr ∷ sign m.Semicolon ∷ []; gives = λ (x, (params, (v, _))) at. macro.Expr at x params v })) c kinds.Expr known (λ t of. rw of refl)

pub macro_proc_row : (c : Ahead) → next_kind c ≡ Some kinds.Proc → rule f.macro_tail (front c.rest) ≡ Some (record { row = mark kinds.Proc ∷ form f.name ∷ form f.params ∷ form f.block ∷ []; gives = λ (x, (params, (body, _))) at. macro.Proc at x params body })
unfolding rule macro_tail_rule
macro_proc_row c known = by_kind (λ at. Some (record { row = mark kinds.Proc ∷ form f.name ∷ form f.params ∷ form f.block ∷ []; gives = λ (x, (params, (body, _))) at. macro.Proc at x params body })) c kinds.Proc known (λ t of. rw of refl)

no_macro_at : (t : Placed) (k : Kind) → kind t ≡ k → k ≢ kinds.Expr → k ≢ kinds.Proc → rule f.macro_tail (Some t) ≡ None
unfolding rule macro_tail_rule
no_macro_at t kinds.Expr of o0 o1 = absurd (o0 refl)
no_macro_at t kinds.Proc of o0 o1 = absurd (o1 refl)
no_macro_at t _ of o0 o1 = rw of refl

pub no_macro : (c : Ahead) → next_kind c ≢ Some kinds.Expr → next_kind c ≢ Some kinds.Proc → rule f.macro_tail (front c.rest) ≡ None
unfolding rule macro_tail_rule
no_macro c o0 o1 = by_all None c refl (λ t k known of. no_macro_at t k of (differs c k kinds.Expr known o0) (differs c k kinds.Proc known o1))
