-- The rules of statements (this project's profile of Handel-C).
use Rattle.std.specs.Prelude.{Bool, true, false, if◌then◌else◌, [], ◌∷◌, Option, Some, None}
use Rattle.hc_tree.specs.declared.place.Place.{Place}
use Rattle.hc_tree.specs.declared.stmt.Order.{Order}
use Rattle.hc_tree.specs.declared.stmt.Order.TheVariants as order
use Rattle.hc_tree.specs.declared.stmt.Condition.{Condition}
use Rattle.hc_tree.specs.declared.stmt.Condition.TheVariants as condition
use Rattle.hc_tree.specs.declared.stmt.Assign.{Assign}
use Rattle.hc_tree.specs.declared.stmt.Assign.TheVariants as assign
use Rattle.hc_tree.specs.declared.stmt.Step.{Step}
use Rattle.hc_tree.specs.declared.stmt.Step.TheVariants.{Up, Down}
use Rattle.hc_tree.specs.declared.stmt.Simple.TheVariants as simple
use Rattle.hc_tree.specs.declared.stmt.LocalItem.TheVariants as local
use Rattle.hc_tree.specs.declared.stmt.Block.{Block, roll-Block}
use Rattle.hc_tree.specs.declared.stmt.Stmt.{Stmt}
use Rattle.hc_tree.specs.declared.stmt.Stmt.TheVariants as s
use Rattle.hc_tree.specs.declared.stmt.Label.{Label}
use Rattle.hc_tree.specs.declared.stmt.Label.TheVariants as label
use Rattle.hc_tree.specs.declared.stmt.Arm.{Arm, roll-Arm}
use Rattle.hc_tree.specs.declared.stmt.Offer.TheVariants as offer
use Rattle.hc_tree.specs.declared.stmt.Case.{Case, roll-Case}
use Rattle.hc_tree.specs.declared.stmt.Other.{roll-Other}
use Rattle.hc_lex.specs.declared.mark.Mark.TheVariants as m
use Rattle.hc_lex.specs.declared.token.Placed.{Placed}
use Rattle.hc_grammar.specs.declared.kind.Kind.{Kind}
use Rattle.hc_grammar.specs.declared.kind.Kind.TheVariants as k
use Rattle.hc_grammar.specs.Kind.{is_name}
use Rattle.hc_grammar.specs.Table.{mark, form}
use Rattle.hc_grammar.specs.Form as f
use Rattle.hc_grammar.specs.Form.{Form, Gives, ArmTail, CaseTail}
use Rattle.hc_grammar.specs.Expression.{Rules, by_front, sign, empty, begins_type}

-- `{ { decl | macro } { stmt } }`, where the outer braces are written
unfoldable pub block_rule : Option Placed → Rules f.block
block_rule = by_front None (λ t kind. Some (record {
  row = sign m.BraceOpen ∷ form f.declared ∷ form f.stmts ∷ sign m.BraceClose ∷ [];
  gives = λ (items, (stmts, _)). roll-Block (record { place = t.place; declared = items; stmts = stmts });
}))

-- whether a declaration begins here
unfoldable pub begins_decl : Kind → Bool
begins_decl k.Static = true
begins_decl k.Ram = true
begins_decl k.Rom = true
begins_decl k.Signal = true
begins_decl k.Chan = true
begins_decl kind = begins_type kind

abbrev declared_by : Placed → Kind → Rules f.declared
declared_by t k.Macro = Some (record { row = form f.macro ∷ form f.declared ∷ []; gives = λ (x, (more, _)). local.Macro x ∷ more })
declared_by t kind = if begins_decl kind
    then Some (record { row = form (f.decl true) ∷ form f.declared ∷ []; gives = λ (x, (more, _)). local.Decl x ∷ more }) else empty []

unfoldable pub declared_rule : Option Placed → Rules f.declared
declared_rule = by_front (empty []) declared_by

-- whether a statement begins here
unfoldable pub begins_stmt : Kind → Bool
begins_stmt (k.Mark m.Semicolon) = true
begins_stmt (k.Mark m.BraceOpen) = true
begins_stmt (k.Mark m.Increment) = true
begins_stmt (k.Mark m.Decrement) = true
begins_stmt k.Seq = true
begins_stmt k.Par = true
begins_stmt k.Delay = true
begins_stmt k.If = true
begins_stmt k.IfSelect = true
begins_stmt k.While = true
begins_stmt k.Do = true
begins_stmt k.For = true
begins_stmt k.Switch = true
begins_stmt k.Prialt = true
begins_stmt kind = is_name kind

unfoldable pub stmts_rule : Option Placed → Rules f.stmts
stmts_rule = by_front (empty []) (λ t kind. if begins_stmt kind
    then Some (record { row = form f.stmt ∷ form f.stmts ∷ []; gives = λ (x, (more, _)). x ∷ more }) else empty [])

-- `( if | ifselect ) ( expr ) stmt [ else stmt ]`
abbrev conditional : Placed → Kind → Condition → Rules f.stmt
conditional t word c = Some (record {
  row = mark word ∷ sign m.ParenOpen ∷ form f.expr ∷ sign m.ParenClose ∷ form f.stmt ∷ form f.else_tail ∷ [];
  gives = λ (e, (a, (b, _))). s.If t.place c e a b;
})

-- `++` or `--`
abbrev pub step : Kind → Option Step
step (k.Mark m.Increment) = Some Up
step (k.Mark m.Decrement) = Some Down
step _ = None

-- `simple ;`, and a statement that begins with a name
abbrev other_stmt : Kind → Rules f.stmt
other_stmt (k.Mark m.Increment) = Some (record { row = form f.simple ∷ sign m.Semicolon ∷ []; gives = λ (x, _). s.Simple x })
other_stmt (k.Mark m.Decrement) = Some (record { row = form f.simple ∷ sign m.Semicolon ∷ []; gives = λ (x, _). s.Simple x })
other_stmt kind = if is_name kind then Some (record { row = form f.name ∷ form f.name_stmt_tail ∷ []; gives = λ (x, (tail, _)). tail x }) else None

abbrev stmt_by : Placed → Kind → Rules f.stmt
stmt_by t (k.Mark m.Semicolon) = Some (record { row = sign m.Semicolon ∷ []; gives = λ _. s.Empty t.place })
stmt_by t (k.Mark m.BraceOpen) = Some (record { row = form f.block ∷ []; gives = λ (b, _). s.Block b })
stmt_by t k.Seq = Some (record { row = mark k.Seq ∷ form (f.order_tail order.Seq) ∷ []; gives = λ (tail, _). tail t.place })
stmt_by t k.Par = Some (record { row = mark k.Par ∷ form (f.order_tail order.Par) ∷ []; gives = λ (tail, _). tail t.place })
stmt_by t k.Delay = Some (record { row = mark k.Delay ∷ sign m.Semicolon ∷ []; gives = λ _. s.Delay t.place })
stmt_by t k.If = conditional t k.If condition.If
stmt_by t k.IfSelect = conditional t k.IfSelect condition.IfSelect
stmt_by t k.While = Some (record {
  row = mark k.While ∷ sign m.ParenOpen ∷ form f.expr ∷ sign m.ParenClose ∷ form f.stmt ∷ [];
  gives = λ (e, (a, _)). s.While t.place e a;
})
stmt_by t k.Do = Some (record {
  row = mark k.Do ∷ form f.stmt ∷ mark k.While ∷ sign m.ParenOpen ∷ form f.expr ∷ sign m.ParenClose ∷ sign m.Semicolon ∷ [];
  gives = λ (a, (e, _)). s.DoWhile t.place a e;
})
stmt_by t k.For = Some (record {
  row = mark k.For ∷ sign m.ParenOpen ∷ form f.opt_simple ∷ sign m.Semicolon ∷ form f.opt_expr ∷ sign m.Semicolon ∷ form f.opt_simple
      ∷ sign m.ParenClose ∷ form f.stmt ∷ [];
  gives = λ (a, (e, (b, (body, _)))). s.For t.place a e b body;
})
stmt_by t k.Switch = Some (record {
  row = mark k.Switch ∷ sign m.ParenOpen ∷ form f.expr ∷ sign m.ParenClose ∷ sign m.BraceOpen ∷ form (f.arms false) ∷ sign m.BraceClose ∷ [];
  gives = λ (e, (arms, _)). s.Switch t.place e arms;
})
stmt_by t k.Prialt = Some (record {
  row = mark k.Prialt ∷ sign m.BraceOpen ∷ form f.cases ∷ sign m.BraceClose ∷ [];
  gives = λ (cases, _). s.Prialt t.place cases.0 cases.1;
})
stmt_by t kind = other_stmt kind

unfoldable pub stmt_rule : Option Placed → Rules f.stmt
stmt_rule = by_front None stmt_by

-- behind `seq` or `par`: a block, or a replicator
abbrev in_order : Order → Place → Block → Stmt
in_order order.Seq at body = s.Seq at body
in_order order.Par at body = s.Par at body

abbrev order_tail_by : (o : Order) → Placed → Kind → Rules (f.order_tail o)
order_tail_by o t (k.Mark m.ParenOpen) = Some (record {
  row = sign m.ParenOpen ∷ form f.name ∷ sign m.Assign ∷ form f.expr ∷ sign m.Semicolon ∷ form f.expr ∷ sign m.Semicolon ∷ form f.simple
      ∷ sign m.ParenClose ∷ form f.block ∷ [];
  gives = λ (x, (first, (c, (next, (body, _))))) at. s.Replicator at o x first c next body;
})
order_tail_by o t _ = Some (record { row = form f.block ∷ []; gives = λ (body, _) at. in_order o at body })

unfoldable pub order_tail_rule : (o : Order) → Option Placed → Rules (f.order_tail o)
order_tail_rule o = by_front None (order_tail_by o)

-- behind a name at the beginning of a statement: a send, a receive, a call, or what is written to the name's object
abbrev name_stmt_by : Placed → Kind → Rules f.name_stmt_tail
name_stmt_by t (k.Mark m.Not) = Some (record { row = sign m.Not ∷ form f.expr ∷ sign m.Semicolon ∷ []; gives = λ (v, _) x. s.Send x.place x v })
name_stmt_by t (k.Mark m.Question) = Some (record { row = sign m.Question ∷ form f.target ∷ sign m.Semicolon ∷ []; gives = λ (to, _) x. s.Receive x.place x to })
name_stmt_by t (k.Mark m.ParenOpen) = Some (record {
  row = sign m.ParenOpen ∷ form f.args ∷ sign m.ParenClose ∷ sign m.Semicolon ∷ [];
  gives = λ (arguments, _) x. s.Call x.place x arguments;
})
name_stmt_by t _ = Some (record {
  row = form f.index ∷ form f.simple_tail ∷ sign m.Semicolon ∷ [];
  gives = λ (i, (tail, _)) x. s.Simple (tail (record { name = x; index = i }));
})

unfoldable pub name_stmt_tail_rule : Option Placed → Rules f.name_stmt_tail
name_stmt_tail_rule = by_front None name_stmt_by

-- `[ else stmt ]`: an `else` belongs to the nearest condition that can have it
abbrev else_by : Placed → Kind → Rules f.else_tail
else_by t k.Else = Some (record { row = mark k.Else ∷ form f.stmt ∷ []; gives = λ (x, _). Some x })
else_by t _ = empty None

unfoldable pub else_tail_rule : Option Placed → Rules f.else_tail
else_tail_rule = by_front (empty None) else_by

-- ---- what is written

-- `place assign expr`, `place ( ++ | -- )` or `( ++ | -- ) place`
abbrev simple_by : Placed → Kind → Option Step → Rules f.simple
simple_by t kind (Some way) = Some (record { row = mark kind ∷ form f.target ∷ []; gives = λ (to, _). simple.Before t.place way to })
simple_by t kind None = Some (record { row = form f.target ∷ form f.simple_tail ∷ []; gives = λ (to, (tail, _)). tail to })

unfoldable pub simple_rule : Option Placed → Rules f.simple
simple_rule = by_front None (λ t kind. simple_by t kind (step kind))

abbrev simple_tail_by : Kind → Option Step → Rules f.simple_tail
simple_tail_by kind (Some way) = Some (record { row = mark kind ∷ []; gives = λ _ to. simple.After to.name.place to way })
simple_tail_by kind None = Some (record { row = form f.assign ∷ form f.expr ∷ []; gives = λ (a, (v, _)) to. simple.Assign to.name.place to a v })

unfoldable pub simple_tail_rule : Option Placed → Rules f.simple_tail
simple_tail_rule = by_front None (λ t kind. simple_tail_by kind (step kind))

-- `[ simple ]` before a `;` or `)`
abbrev opt_simple_by : Placed → Kind → Rules f.opt_simple
opt_simple_by t (k.Mark m.Semicolon) = empty None
opt_simple_by t (k.Mark m.ParenClose) = empty None
opt_simple_by t _ = Some (record { row = form f.simple ∷ []; gives = λ (x, _). Some x })

unfoldable pub opt_simple_rule : Option Placed → Rules f.opt_simple
opt_simple_rule = by_front (empty None) opt_simple_by

-- `[ expr ]` before a `;`
abbrev opt_expr_by : Placed → Kind → Rules f.opt_expr
opt_expr_by t (k.Mark m.Semicolon) = empty None
opt_expr_by t _ = Some (record { row = form f.expr ∷ []; gives = λ (e, _). Some e })

unfoldable pub opt_expr_rule : Option Placed → Rules f.opt_expr
opt_expr_rule = by_front (empty None) opt_expr_by

unfoldable pub target_rule : Option Placed → Rules f.target
target_rule = by_front None (λ t kind. Some (record { row = form f.name ∷ form f.index ∷ []; gives = λ (x, (i, _)). record { name = x; index = i } }))

-- `[ [ expr ] ]`, where the inner brackets are written
abbrev index_by : Placed → Kind → Rules f.index
index_by t (k.Mark m.BracketOpen) = Some (record { row = sign m.BracketOpen ∷ form f.expr ∷ sign m.BracketClose ∷ []; gives = λ (i, _). Some i })
index_by t _ = empty None

unfoldable pub index_rule : Option Placed → Rules f.index
index_rule = by_front (empty None) index_by

-- `=`, or an operator's mark that ends in `=`
abbrev pub assign_mark : Kind → Option Assign
assign_mark (k.Mark m.Assign) = Some assign.Set
assign_mark (k.Mark m.AddAssign) = Some assign.Add
assign_mark (k.Mark m.SubtractAssign) = Some assign.Subtract
assign_mark (k.Mark m.MultiplyAssign) = Some assign.Multiply
assign_mark (k.Mark m.DivideAssign) = Some assign.Divide
assign_mark (k.Mark m.RemainderAssign) = Some assign.Remainder
assign_mark (k.Mark m.AndAssign) = Some assign.And
assign_mark (k.Mark m.OrAssign) = Some assign.Or
assign_mark (k.Mark m.XorAssign) = Some assign.Xor
assign_mark (k.Mark m.ShiftLeftAssign) = Some assign.ShiftLeft
assign_mark (k.Mark m.ShiftRightAssign) = Some assign.ShiftRight
assign_mark _ = None

abbrev assign_by : Kind → Option Assign → Rules f.assign
assign_by kind (Some a) = Some (record { row = mark kind ∷ []; gives = λ _. a })
assign_by kind None = None

unfoldable pub assign_rule : Option Placed → Rules f.assign
assign_rule = by_front None (λ t kind. assign_by kind (assign_mark kind))

-- ---- `switch`

-- Arms, where a `default` was read before them or not: a `switch` has at most one.
abbrev arm_of : Place → Label → ArmTail → Arm
arm_of at first tail = roll-Arm (record { place = at; labels = first ∷ tail.labels; stmts = tail.stmts; has_break = tail.has_break })

abbrev arms_by : (has_default : Bool) → Placed → Kind → Rules (f.arms has_default)
arms_by has_default t k.Case = Some (record {
  row = mark k.Case ∷ form f.expr ∷ sign m.Colon ∷ form (f.arm_tail has_default) ∷ [];
  gives = λ (e, (tail, _)). arm_of t.place (label.Case t.place e) tail ∷ tail.arms;
})
arms_by false t k.Default = Some (record {
  row = mark k.Default ∷ sign m.Colon ∷ form (f.arm_tail true) ∷ [];
  gives = λ (tail, _). arm_of t.place (label.Default t.place) tail ∷ tail.arms;
})
arms_by has_default t _ = empty []

unfoldable pub arms_rule : (has_default : Bool) → Option Placed → Rules (f.arms has_default)
arms_rule has_default = by_front (empty []) (arms_by has_default)

-- behind the first label of an arm
abbrev labelled : Label → ArmTail → ArmTail
labelled l tail = record { labels = l ∷ tail.labels; stmts = tail.stmts; has_break = tail.has_break; arms = tail.arms }

abbrev without_labels : (has_default : Bool) → Rules (f.arm_tail has_default)
without_labels has_default = Some (record {
  row = form f.stmts ∷ form (f.arm_end has_default) ∷ [];
  gives = λ (stmts, (end, _)). record { labels = []; stmts = stmts; has_break = end.0; arms = end.1 };
})

abbrev arm_tail_by : (has_default : Bool) → Placed → Kind → Rules (f.arm_tail has_default)
arm_tail_by has_default t k.Case = Some (record {
  row = mark k.Case ∷ form f.expr ∷ sign m.Colon ∷ form (f.arm_tail has_default) ∷ [];
  gives = λ (e, (tail, _)). labelled (label.Case t.place e) tail;
})
arm_tail_by false t k.Default = Some (record {
  row = mark k.Default ∷ sign m.Colon ∷ form (f.arm_tail true) ∷ [];
  gives = λ (tail, _). labelled (label.Default t.place) tail;
})
arm_tail_by has_default t _ = without_labels has_default

unfoldable pub arm_tail_rule : (has_default : Bool) → Option Placed → Rules (f.arm_tail has_default)
arm_tail_rule has_default = by_front (without_labels has_default) (arm_tail_by has_default)

-- `break ;` and the arms behind it; without it no arm may follow
abbrev arm_end_by : (has_default : Bool) → Placed → Kind → Rules (f.arm_end has_default)
arm_end_by has_default t k.Break = Some (record {
  row = mark k.Break ∷ sign m.Semicolon ∷ form (f.arms has_default) ∷ [];
  gives = λ (arms, _). (true, arms);
})
arm_end_by has_default t _ = empty (false, [])

unfoldable pub arm_end_rule : (has_default : Bool) → Option Placed → Rules (f.arm_end has_default)
arm_end_rule has_default = by_front (empty (false, [])) (arm_end_by has_default)

-- ---- `prialt`

abbrev then_cases : {x : Form} → Placed → (Case → CaseTail → Gives x) → Rules x
then_cases t value = Some (record {
  row = mark k.Case ∷ form f.name ∷ form f.offer ∷ sign m.Colon ∷ form f.stmts ∷ form f.case_end ∷ [];
  gives = λ (x, (o, (stmts, (end, _)))). value (roll-Case (record { place = t.place; channel = x; offer = o; stmts = stmts; has_break = end.has_break })) end;
})

abbrev cases_by : Placed → Kind → Rules f.cases
cases_by t k.Case = then_cases t (λ c end. (c ∷ end.cases, end.other))
cases_by t _ = None

unfoldable pub cases_rule : Option Placed → Rules f.cases
cases_rule = by_front None cases_by

abbrev offer_by : Placed → Kind → Rules f.offer
offer_by t (k.Mark m.Not) = Some (record { row = sign m.Not ∷ form f.expr ∷ []; gives = λ (v, _). offer.Send v })
offer_by t (k.Mark m.Question) = Some (record { row = sign m.Question ∷ form f.target ∷ []; gives = λ (to, _). offer.Receive to })
offer_by t _ = None

unfoldable pub offer_rule : Option Placed → Rules f.offer
offer_rule = by_front None offer_by

-- `break ;` and what is behind it; without it the case is the last part of its `prialt`
abbrev case_end_by : Placed → Kind → Rules f.case_end
case_end_by t k.Break = Some (record {
  row = mark k.Break ∷ sign m.Semicolon ∷ form f.more_cases ∷ [];
  gives = λ (more, _). record { has_break = true; cases = more.0; other = more.1 };
})
case_end_by t _ = empty (record { has_break = false; cases = []; other = None })

unfoldable pub case_end_rule : Option Placed → Rules f.case_end
case_end_rule = by_front (empty (record { has_break = false; cases = []; other = None })) case_end_by

abbrev more_cases_by : Placed → Kind → Rules f.more_cases
more_cases_by t k.Case = then_cases t (λ c end. (c ∷ end.cases, end.other))
more_cases_by t k.Default = Some (record {
  row = mark k.Default ∷ sign m.Colon ∷ form f.stmts ∷ form f.other_end ∷ [];
  gives = λ (stmts, (has_break, _)). ([], Some (roll-Other (record { place = t.place; stmts = stmts; has_break = has_break })));
})
more_cases_by t _ = empty ([], None)

unfoldable pub more_cases_rule : Option Placed → Rules f.more_cases
more_cases_rule = by_front (empty ([], None)) more_cases_by

abbrev other_end_by : Placed → Kind → Rules f.other_end
other_end_by t k.Break = Some (record { row = mark k.Break ∷ sign m.Semicolon ∷ []; gives = λ _. true })
other_end_by t _ = empty false

unfoldable pub other_end_rule : Option Placed → Rules f.other_end
other_end_rule = by_front (empty false) other_end_by
