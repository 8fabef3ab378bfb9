-- Statements (this project's profile of Handel-C).
use Rattle.std.specs.Prelude.{ℕ, zero, suc, Bool, true, false, not, ◌&&◌, if◌then◌else◌, List, [], ◌∷◌, Option, Some, None, is_some, slice_get, ℤ, pos}
use Rattle.std.specs.Str.{bytes_eq}
use Rattle.hc_tree.specs.declared.place.Place.{Place}
use Rattle.hc_tree.specs.declared.name.Ident.{Ident}
use Rattle.hc_tree.specs.declared.refusal.Rule.TheVariants.{S4, S6, S12, L5}
use Rattle.hc_tree.specs.declared.refusal.Detail.TheVariants.{Nothing}
use Rattle.hc_tree.specs.declared.expr.ExprTree.{ExprTree}
use Rattle.hc_tree.specs.declared.stmt.Order.{Order}
use Rattle.hc_tree.specs.declared.stmt.Order.TheVariants as order
use Rattle.hc_tree.specs.declared.stmt.Condition.TheVariants as condition
use Rattle.hc_tree.specs.declared.stmt.Assign.{Assign}
use Rattle.hc_tree.specs.declared.stmt.Assign.TheVariants as assign
use Rattle.hc_tree.specs.declared.stmt.Step.{Step}
use Rattle.hc_tree.specs.declared.stmt.Step.TheVariants as step
use Rattle.hc_tree.specs.declared.stmt.Target as tree
use Rattle.hc_tree.specs.declared.stmt.Simple.{Simple}
use Rattle.hc_tree.specs.declared.stmt.Simple.TheVariants as simple
use Rattle.hc_tree.specs.declared.stmt.Label.{Label}
use Rattle.hc_tree.specs.declared.stmt.Label.TheVariants as label
use Rattle.hc_tree.specs.declared.stmt.Offer.{Offer}
use Rattle.hc_tree.specs.declared.stmt.Offer.TheVariants as offer
use Rattle.hc_tree.specs.declared.stmt.LocalItem.{LocalItem, out-LocalItem}
use Rattle.hc_tree.specs.declared.stmt.LocalItem.TheOpen.{LocalItem-F, Macro-F, Stmt-F}
use Rattle.hc_tree.specs.declared.stmt.Macro.{Macro, out-Macro}
use Rattle.hc_tree.specs.declared.stmt.Block.{Block, out-Block}
use Rattle.hc_tree.specs.declared.stmt.Stmt.{Stmt, out-Stmt}
use Rattle.hc_tree.specs.declared.stmt.Arm.{Arm, out-Arm}
use Rattle.hc_tree.specs.declared.stmt.Case.{Case, out-Case}
use Rattle.hc_tree.specs.declared.stmt.Other.{Other, out-Other}
use Rattle.hc_tree.specs.declared.stmt.Params.{Params}
use Rattle.hc_num.specs.Number.{Number}
use Rattle.hc_core.specs.Program as core
use Rattle.hc_core.specs.Program.{Expression, Constant, Target, ToRegister, ToElement, ToWord, ToSignal, Statement, Skip, Seq, Par, If, While, DoWhile, Switch, Send, Receive, Prialt, PrialtElse, Delay, Statements, stop, ◌⨾◌, Cases, no_case, send_case, receive_case, Arms, no_arm}
use Rattle.hc_core.specs.Typed.{width_of, sign_of}
use Rattle.hc_core.specs.declared.expr.BinOp.{BinOp}
use Rattle.hc_core.specs.declared.expr.BinOp.TheVariants as bin
use Rattle.hc_core.specs.declared.object.Kind.{Kind}
use Rattle.hc_core.specs.declared.object.Kind.TheVariants as kind
use Rattle.hc_width.specs.Whole.{holds}
use Rattle.hc_width.specs.Operand.{Operand, Whole, Of}
use Rattle.hc_width.specs.Judged.{Gives, equal_widths, equal_signs}
use Rattle.hc_width.specs.Binary.{binary}
use Rattle.hc_width.specs.Parts as width
use Rattle.hc_scope.specs.Scope.{Meaning, an_object, a_number, an_expression, a_procedure, Scope, opened, declared, Found, find, Named, missing, no_name, named, name_in}
use Rattle.hc_scope.specs.Expansion.{Expansion, ◌>>=◌, ◌>>◌, ◌<$>◌, pure, refuse, refuse_name, kinds, judged, each}
use Rattle.hc_scope.specs.Parts.{Context, TypeOf, within, Parts, ArmParts, place_of}
use Rattle.hc_scope.specs.Expression.{needs_constant, constant, call_context, index}
use Rattle.hc_scope.specs.Declaration.{fresh, declaring, initial, taken, declaration}

-- statements in text order, as parts of a program
abbrev pub in_order : List Statement → Statements
in_order [] = stop
in_order (first ∷ rest) = first ⨾ in_order rest

-- ---- targets

-- an index with its scope
pub record IndexAt : Type 0 where
  pub index : ExprTree
  pub scope : Scope

-- what is written: a register or signal, or an element or word by an index
pub data Destination : Type 0 where
  a_register : ℕ → Destination
  a_signal : ℕ → Destination
  an_element : ℕ → IndexAt → Destination
  a_word : ℕ → IndexAt → Destination

-- a destination with its name, in the call where a parameter stood for it, and the type of what is written
pub record TypedDestination : Type 0 where
  pub name : Ident
  pub to : Destination
  pub type : TypeOf

-- an object that can be written: a register or signal by its name alone, an element or a word of a RAM by an index
abbrev pub destination_of : Ident → ℕ → Option IndexAt → Option Kind → Expansion TypedDestination
destination_of x k None (Some (kind.Reg w s init)) = pure (record { name = x; to = a_register k; type = record { width = w; signed = s } })
destination_of x k None (Some (kind.Signal w s unset)) = pure (record { name = x; to = a_signal k; type = record { width = w; signed = s } })
destination_of x k (Some i) (Some (kind.Array w s n init)) = pure (record { name = x; to = an_element k i; type = record { width = w; signed = s } })
destination_of x k (Some i) (Some (kind.Ram w s n init)) = pure (record { name = x; to = a_word k i; type = record { width = w; signed = s } })
destination_of x k i kind = refuse_name S6 x

abbrev pub destination_by : Ident → Option IndexAt → Meaning → Expansion TypedDestination
destination_by x i (an_object k) = kinds >>= (λ ks. destination_of x k i (slice_get ks k))
destination_by x i meaning = refuse_name S6 x

-- the index that is written, or that an argument has; two can't stand
abbrev pub destination_index : Ident → Meaning → Option (ExprTree × Scope) → Option IndexAt → Expansion TypedDestination
destination_index x meaning None own = destination_by x own meaning
destination_index x meaning (Some given) None = destination_by x (Some (record { index = given.0; scope = given.1 })) meaning
destination_index x meaning (Some given) (Some own) = refuse_name S6 x

abbrev pub destination_named : Option IndexAt → Named → Expansion TypedDestination
destination_named own (missing x) = refuse_name S4 x
destination_named own (no_name x) = refuse_name S6 x
destination_named own (named x meaning given) = destination_index x meaning given own

abbrev pub own_index : Scope → Option ExprTree → Option IndexAt
own_index scope None = None
own_index scope (Some i) = Some (record { index = i; scope = scope })

unfoldable pub destination : Scope → tree.Target → Expansion TypedDestination
destination scope target = destination_named (own_index scope target.index) (name_in scope target.name)

-- the expression of an index, within so many macro calls
unfoldable pub index_at : Parts → ℕ → ℕ → IndexAt → Expansion Expression
index_at p calls k i = p.expression (record { scope = i.scope; calls = calls }) i.index >>= index k i.index

abbrev pub target_of : Parts → ℕ → Destination → Expansion Target
target_of p calls (a_register k) = pure (ToRegister k)
target_of p calls (a_signal k) = pure (ToSignal k)
target_of p calls (an_element k i) = ToElement k <$> index_at p calls k i
target_of p calls (a_word k i) = ToWord k <$> index_at p calls k i

-- what a destination has as a value; its index is expanded once more
abbrev pub value_of : Parts → ℕ → Destination → Expansion Operand
value_of p calls (a_register k) = pure (Of (core.Register k))
value_of p calls (a_signal k) = pure (Of (core.Signal k))
value_of p calls (an_element k i) = (λ x. Of (core.Element k x)) <$> index_at p calls k i
value_of p calls (a_word k i) = (λ x. Of (core.Word k x)) <$> index_at p calls k i

-- what is received into is no signal
abbrev pub kept : Ident → Destination → Expansion (Unit {0})
kept x (a_register k) = pure tt
kept x (a_signal k) = refuse_name S6 x
kept x (an_element k i) = pure tt
kept x (a_word k i) = pure tt

-- ---- assignments

abbrev pub operator : Assign → Option BinOp
operator assign.Set = None
operator assign.Add = Some bin.Add
operator assign.Subtract = Some bin.Sub
operator assign.Multiply = Some bin.Mul
operator assign.Divide = Some bin.Div
operator assign.Remainder = Some bin.Rem
operator assign.And = Some bin.And
operator assign.Or = Some bin.Or
operator assign.Xor = Some bin.Xor
operator assign.ShiftLeft = Some bin.Shl
operator assign.ShiftRight = Some bin.Shr

abbrev pub step_operator : Step → BinOp
step_operator step.Up = bin.Add
step_operator step.Down = bin.Sub

-- the value that is assigned: `x = e`, or `x = x op e`
abbrev pub new_value : Parts → Context → Place → Destination → Option BinOp → Expansion Operand → Expansion Operand
new_value p c place d None value = value
new_value p c place d (Some op) value = do
  x ← value_of p c.calls d
  v ← value
  ks ← kinds
  judged place (binary ks op x v)

abbrev pub assignment_to : Parts → Context → Place → Option BinOp → Expansion Operand → TypedDestination → Expansion Statement
assignment_to p c place op value d = do
  to ← target_of p c.calls d.to
  v ← new_value p c place d.to op value
  e ← taken d.type place v
  pure (core.Assign place to e)

unfoldable pub assignment : Parts → Context → Place → tree.Target → Option BinOp → Expansion Operand → Expansion Statement
assignment p c place target op value = destination c.scope target >>= assignment_to p c place op value

unfoldable pub simple_form : Parts → Context → Simple → Expansion Statement
simple_form p c (simple.Assign place target how value) = assignment p c place target (operator how) (p.expression c value)
simple_form p c (simple.After place target way) = assignment p c place target (Some (step_operator way)) (pure (Whole (pos 1)))
simple_form p c (simple.Before place way target) = assignment p c place target (Some (step_operator way)) (pure (Whole (pos 1)))

-- ---- replicators

-- the step writes the variable, by its name alone
abbrev pub writes_variable : Ident → tree.Target → Expansion (Unit {0})
writes_variable x target = if bytes_eq target.name.name x.name && not (is_some target.index) then pure tt else refuse_name S6 target.name

abbrev pub stepped : Place → BinOp → ℤ → Operand → Expansion ℤ
stepped place op v w = do
  ks ← kinds
  r ← judged place (binary ks op (Whole v) w)
  needs_constant place r

abbrev pub next_number : Parts → Context → Place → ℤ → Option BinOp → ExprTree → Expansion ℤ
next_number p c place v None value = constant p c value
next_number p c place v (Some op) value = p.expression c value >>= stepped place op v

unfoldable pub step_form : Parts → Context → Ident → ℤ → Simple → Expansion ℤ
step_form p c x v (simple.Assign place target how value) = writes_variable x target >> next_number p c place v (operator how) value
step_form p c x v (simple.After place target way) = writes_variable x target >> stepped place (step_operator way) v (Whole (pos 1))
step_form p c x v (simple.Before place way target) = writes_variable x target >> stepped place (step_operator way) v (Whole (pos 1))

-- the body of a turn whose condition holds, and the variable's next number
abbrev pub turned : Parts → Context → Ident → Simple → Block → ℤ → Expansion (Option (Statement × ℤ))
turned p inner x step body v = do
  parts ← p.block inner body
  next ← p.step inner x v step
  pure (Some (Seq (out-Block body).place (in_order parts), next))

-- a turn, or none where the condition doesn't hold
abbrev pub turn_where : Parts → Context → Ident → ExprTree → Simple → Block → ℤ → Expansion (Option (Statement × ℤ))
turn_where p inner x condition step body v = constant p inner condition >>= (λ holding. if holds holding then turned p inner x step body v else pure None)

-- the variable stands for its number in a turn
unfoldable pub turn : Parts → Context → Ident → ExprTree → Simple → Block → ℤ → Expansion (Option (Statement × ℤ))
turn p c x condition step body v = turn_where p (within (declared x.name (a_number v) (opened c.scope)) c) x condition step body v

-- a turn's body, and the bodies of the turns behind it
abbrev pub turns_behind : (ℤ → Expansion (List Statement)) → Option (Statement × ℤ) → Expansion (List Statement)
turns_behind others None = pure []
turns_behind others (Some done) = others done.1 >>= (λ rest. pure (done.0 ∷ rest))

-- The bodies of the turns. Each turn visits a node, so that there are never more turns than L5 has nodes.
unfoldable pub turns : ℕ → Parts → Context → Place → Ident → ExprTree → Simple → Block → ℤ → Expansion (List Statement)
turns zero p c place x condition step body v = refuse L5 place Nothing
turns (suc most) p c place x condition step body v = turn p c x condition step body v >>= turns_behind (turns most p c place x condition step body)

abbrev pub ordered : Order → Place → Statements → Statement
ordered order.Seq place parts = Seq place parts
ordered order.Par place parts = Par place parts

abbrev pub replicator : Parts → Context → Place → Order → Ident → ExprTree → ExprTree → Simple → Block → Expansion Statement
replicator p c place how x first condition step body = do
  v ← constant p c first
  bodies ← turns 1000001 p c place x condition step body v
  pure (ordered how place (in_order bodies))

-- ---- channels

-- a channel with the type of what is sent
pub record Channel : Type 0 where
  pub number : ℕ
  pub type : TypeOf

abbrev pub channel_kind : Ident → ℕ → Option Kind → Expansion Channel
channel_kind x k (Some (kind.Chan w s queue)) = pure (record { number = k; type = record { width = w; signed = s } })
channel_kind x k _ = refuse_name S6 x

abbrev pub channel_by : Ident → Option (ExprTree × Scope) → Meaning → Expansion Channel
channel_by x None (an_object k) = kinds >>= (λ ks. channel_kind x k (slice_get ks k))
channel_by x given meaning = refuse_name S6 x

abbrev pub channel_named : Named → Expansion Channel
channel_named (missing x) = refuse_name S4 x
channel_named (no_name x) = refuse_name S6 x
channel_named (named x meaning given) = channel_by x given meaning

unfoldable pub channel : Scope → Ident → Expansion Channel
channel scope x = channel_named (name_in scope x)

-- the value that is sent takes the channel's type, by the rules at a place
unfoldable pub sent : Parts → Context → Place → TypeOf → ExprTree → Expansion Expression
sent p c place t value = p.expression c value >>= taken t place

-- what is received into has the channel's type, by the rules at a place
unfoldable pub received : Parts → Context → Place → TypeOf → tree.Target → Expansion Target
received p c place t target = do
  d ← destination c.scope target
  kept d.name d.to
  to ← target_of p c.calls d.to
  judged place (equal_widths t.width d.type.width (equal_signs t.signed d.type.signed (Gives to)))

abbrev pub send : Parts → Context → Place → Ident → ExprTree → Expansion Statement
send p c place x value = do
  chan ← channel c.scope x
  e ← sent p c place chan.type value
  pure (Send place chan.number e)

abbrev pub receive : Parts → Context → Place → Ident → tree.Target → Expansion Statement
receive p c place x target = do
  chan ← channel c.scope x
  to ← received p c place chan.type target
  pure (Receive place chan.number to)

-- ---- blocks

abbrev pub parameters_of : Option Params → List Ident
parameters_of None = []
parameters_of (Some parameters) = parameters.names

-- a macro is declared, and isn't expanded
abbrev pub macro_layer : Context → Macro-F LocalItem Macro Stmt Arm Block Case Other → Expansion Context
macro_layer c (Macro-F.Expr place x parameters value) = fresh c x >> pure (declaring x (an_expression (parameters_of parameters) value) c)
macro_layer c (Macro-F.Proc place x parameters body) = fresh c x >> pure (declaring x (a_procedure parameters.names body) c)

unfoldable pub macro_form : Context → Macro → Expansion Context
macro_form c m = macro_layer c (out-Macro m)

abbrev pub macro_layer_place : Macro-F LocalItem Macro Stmt Arm Block Case Other → Place
macro_layer_place (Macro-F.Expr place x parameters value) = place
macro_layer_place (Macro-F.Proc place x parameters body) = place

abbrev pub macro_place : Macro → Place
macro_place m = macro_layer_place (out-Macro m)

-- what a block declares
abbrev pub local_layer : Parts → Context → LocalItem-F LocalItem Macro Stmt Arm Block Case Other → Expansion Context
local_layer p c (LocalItem-F.Decl d) = declaration p c d
local_layer p c (LocalItem-F.Macro m) = p.leaf c (macro_place m) >> macro_form c m

abbrev pub locals : Parts → Context → List LocalItem → Expansion Context
locals p c [] = pure c
locals p c (item ∷ rest) = local_layer p c (out-LocalItem item) >>= (λ inner. locals p inner rest)

-- the statements of a block, which is a scope
unfoldable pub block_form : Parts → Context → Block → Expansion (List Statement)
block_form p c b = do
  inner ← locals p (within (opened c.scope) c) (out-Block b).declared
  each (p.statement inner) (out-Block b).stmts

-- ---- statements of one form

-- the body of a macro procedure, with its parameters bound to arguments
abbrev pub run_procedure : Parts → Context → Place → Ident → List Ident → Block → Scope → List ExprTree → Expansion Statement
run_procedure p c place x parameters body scope arguments = do
  inner ← call_context c x parameters scope arguments
  parts ← p.block inner body
  pure (Seq place (in_order parts))

abbrev pub run_by : Parts → Context → Place → Ident → List ExprTree → Scope → Meaning → Expansion Statement
run_by p c place x arguments scope (a_procedure parameters body) = run_procedure p c place x parameters body scope arguments
run_by p c place x arguments scope meaning = refuse_name S6 x

abbrev pub run_found : Parts → Context → Place → Ident → List ExprTree → Option Found → Expansion Statement
run_found p c place x arguments None = refuse_name S4 x
run_found p c place x arguments (Some found) = run_by p c place x arguments found.scope found.meaning

-- a call of a macro procedure
unfoldable pub run : Parts → Context → Place → Ident → List ExprTree → Expansion Statement
run p c place x arguments = run_found p c place x arguments (find x.name c.scope)

abbrev pub statement_or_skip : Parts → Context → Option Stmt → Expansion Statement
statement_or_skip p c None = pure Skip
statement_or_skip p c (Some s) = p.statement c s

abbrev pub simple_or_skip : Parts → Context → Option Simple → Expansion Statement
simple_or_skip p c None = pure Skip
simple_or_skip p c (Some x) = p.simple c x

-- the condition of a `for`: without one it always holds
abbrev pub condition_or_one : Parts → Context → Option ExprTree → Expansion Expression
condition_or_one p c None = pure (Constant (record { width = 1; signed = false; bits = 1 }))
condition_or_one p c (Some x) = width.condition <$> p.expression c x

-- the selector has a type; S12 where it is a constant
abbrev pub needs_type : Place → Operand → Expansion Expression
needs_type place (Whole v) = refuse S12 place Nothing
needs_type place (Of x) = pure x

-- ---- `switch`

abbrev pub labels : Parts → Context → TypeOf → List Label → Expansion (List Number)
labels p c t [] = pure []
labels p c t (label.Case place value ∷ rest) = do
  n ← initial p c t value
  more ← labels p c t rest
  pure (n ∷ more)
labels p c t (label.Default place ∷ rest) = labels p c t rest

abbrev pub has_default : List Label → Bool
has_default [] = false
has_default (label.Case place value ∷ rest) = has_default rest
has_default (label.Default place ∷ rest) = true

unfoldable pub arm_form : Parts → Context → ℕ → Bool → Arm → Expansion ArmParts
arm_form p c w s a = do
  values ← labels p c (record { width = w; signed = s }) (out-Arm a).labels
  parts ← each (p.statement c) (out-Arm a).stmts
  pure (record { values = values; other = has_default (out-Arm a).labels; body = Seq (out-Arm a).place (in_order parts) })

abbrev pub arms_of : List ArmParts → Arms
arms_of [] = no_arm
arms_of (a ∷ rest) = core.arm a.values a.other a.body (arms_of rest)

abbrev pub switch_on : Parts → Context → Place → Expression → List Arm → Expansion Statement
switch_on p c place x arms = do
  ks ← kinds
  all ← each (p.arm c (width_of ks x) (sign_of ks x)) arms
  pure (Switch place x (arms_of all))

unfoldable pub switch : Parts → Context → Place → ExprTree → List Arm → Expansion Statement
switch p c place selector arms = do
  v ← p.expression c selector
  x ← needs_type (place_of selector) v
  switch_on p c place x arms

-- ---- `prialt`

-- what a case waits for, in front of its arm and other cases
abbrev pub offered : Parts → Context → Place → Channel → Offer → Expansion (Statement → Cases → Cases)
offered p c place chan (offer.Send value) = (λ e arm rest. send_case chan.number e arm rest) <$> sent p c place chan.type value
offered p c place chan (offer.Receive target) = (λ to arm rest. receive_case chan.number to arm rest) <$> received p c place chan.type target

unfoldable pub case_form : Parts → Context → Case → Expansion (Cases → Cases)
case_form p c x = do
  chan ← channel c.scope (out-Case x).channel
  made ← offered p c (out-Case x).place chan (out-Case x).offer
  parts ← each (p.statement c) (out-Case x).stmts
  pure (made (Seq (out-Case x).place (in_order parts)))

unfoldable pub other_form : Parts → Context → Other → Expansion Statement
other_form p c x = (λ parts. Seq (out-Other x).place (in_order parts)) <$> each (p.statement c) (out-Other x).stmts

abbrev pub cases_of : List (Cases → Cases) → Cases
cases_of [] = no_case
cases_of (made ∷ rest) = made (cases_of rest)

abbrev pub prialt : Parts → Context → Place → List Case → Option Other → Expansion Statement
prialt p c place cases None = (λ all. Prialt place (cases_of all)) <$> each (p.case c) cases
prialt p c place cases (Some other) = do
  all ← each (p.case c) cases
  rest ← p.other c other
  pure (PrialtElse place (cases_of all) rest)

-- ---- one clause for each form

abbrev pub StmtLayer : Type 0
StmtLayer = Stmt-F LocalItem Macro Stmt Arm Block Case Other

abbrev pub statement_layer : Parts → Context → StmtLayer → Expansion Statement
statement_layer p c (Stmt-F.Empty place) = pure Skip
statement_layer p c (Stmt-F.Block b) = (λ parts. Seq (out-Block b).place (in_order parts)) <$> block_form p c b
statement_layer p c (Stmt-F.Seq place body) = (λ parts. Seq place (in_order parts)) <$> block_form p c body
statement_layer p c (Stmt-F.Par place body) = (λ parts. Par place (in_order parts)) <$> block_form p c body
statement_layer p c (Stmt-F.Replicator place how x first condition step body) = replicator p c place how x first condition step body
statement_layer p c (Stmt-F.Simple x) = simple_form p c x
statement_layer p c (Stmt-F.Delay place) = pure (Delay place)
statement_layer p c (Stmt-F.Send place x value) = send p c place x value
statement_layer p c (Stmt-F.Receive place x target) = receive p c place x target
statement_layer p c (Stmt-F.Call place x arguments) = run p c place x arguments
statement_layer p c (Stmt-F.If place condition.If e a b) = do
  v ← p.expression c e
  then_part ← p.statement c a
  else_part ← statement_or_skip p c b
  pure (If place (width.condition v) then_part else_part)
statement_layer p c (Stmt-F.If place condition.IfSelect e a b) = constant p c e >>= (λ v. if holds v then p.statement c a else statement_or_skip p c b)
statement_layer p c (Stmt-F.While place e body) = do
  v ← p.expression c e
  part ← p.statement c body
  pure (While place (width.condition v) part)
statement_layer p c (Stmt-F.DoWhile place body e) = do
  part ← p.statement c body
  v ← p.expression c e
  pure (DoWhile place part (width.condition v))
statement_layer p c (Stmt-F.For place first e last body) = do
  a ← simple_or_skip p c first
  holding ← condition_or_one p c e
  b ← simple_or_skip p c last
  part ← p.statement c body
  pure (Seq place (a ⨾ While place holding (Seq place (part ⨾ b ⨾ stop)) ⨾ stop))
statement_layer p c (Stmt-F.Switch place selector arms) = switch p c place selector arms
statement_layer p c (Stmt-F.Prialt place cases other) = prialt p c place cases other

unfoldable pub statement_form : Parts → Context → Stmt → Expansion Statement
statement_form p c s = statement_layer p c (out-Stmt s)

-- ---- nodes

abbrev pub stmt_layer_place : StmtLayer → Place
stmt_layer_place (Stmt-F.Empty place) = place
stmt_layer_place (Stmt-F.Block b) = (out-Block b).place
stmt_layer_place (Stmt-F.Seq place body) = place
stmt_layer_place (Stmt-F.Par place body) = place
stmt_layer_place (Stmt-F.Replicator place how x first condition step body) = place
stmt_layer_place (Stmt-F.Simple (simple.Assign place target how value)) = place
stmt_layer_place (Stmt-F.Simple (simple.After place target way)) = place
stmt_layer_place (Stmt-F.Simple (simple.Before place way target)) = place
stmt_layer_place (Stmt-F.Delay place) = place
stmt_layer_place (Stmt-F.Send place x value) = place
stmt_layer_place (Stmt-F.Receive place x target) = place
stmt_layer_place (Stmt-F.Call place x arguments) = place
stmt_layer_place (Stmt-F.If place word e a b) = place
stmt_layer_place (Stmt-F.While place e body) = place
stmt_layer_place (Stmt-F.DoWhile place body e) = place
stmt_layer_place (Stmt-F.For place first e last body) = place
stmt_layer_place (Stmt-F.Switch place selector arms) = place
stmt_layer_place (Stmt-F.Prialt place cases other) = place

-- the place of a statement
abbrev pub stmt_place : Stmt → Place
stmt_place s = stmt_layer_place (out-Stmt s)

-- whether a statement is a call, which L4 counts
abbrev pub is_run_layer : StmtLayer → Bool
is_run_layer (Stmt-F.Call place x arguments) = true
is_run_layer _ = false

abbrev pub is_run : Stmt → Bool
is_run s = is_run_layer (out-Stmt s)
