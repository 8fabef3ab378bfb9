-- What each form of a core reads as: one equation a form.
use Rattle.std.proofs.Common.{◌≡◌, ℕ, List, [], ◌∷◌, Some, None, refl, ap, ◌∙◌}
use Rattle.hc_num.specs.Number.{Number}
use Rattle.hc_tree.specs.declared.place.Place.{Place}
use Rattle.hc_core.specs.declared.expr.UnOp.{UnOp}
use Rattle.hc_core.specs.declared.expr.BinOp.{BinOp}
use Rattle.hc_core.specs.declared.expr.Expr.{Expr}
use Rattle.hc_core.specs.declared.expr.Expr.TheVariants as e
use Rattle.hc_core.specs.declared.expr.Expr.TheBlock as eb
use Rattle.hc_core.specs.declared.stmt.Target.{Target}
use Rattle.hc_core.specs.declared.stmt.Target.TheVariants as t
use Rattle.hc_core.specs.declared.stmt.Stmt.{Stmt, items-the_row-Stmt, items_hidden-the_row-Stmt-2, items-the_row-Case, items_hidden-the_row-Case-0, items-the_row-Arm, items_hidden-the_row-Arm-3}
use Rattle.hc_core.specs.declared.stmt.Stmt.TheVariants as s
use Rattle.hc_core.specs.declared.stmt.Case.{Case}
use Rattle.hc_core.specs.declared.stmt.Case.TheVariants as c
use Rattle.hc_core.specs.declared.stmt.Case.TheBlock as sb
use Rattle.hc_core.specs.declared.stmt.Arm.{Arm}
use Rattle.hc_core.specs.Program.{Constant, Register, Element, Word, Signal, Input, Unary, Binary, Slice, Choice, ToRegister, ToElement, ToWord, ToSignal, Skip, Assign, Delay, Send, Receive, Prialt, PrialtElse, Seq, Par, If, While, DoWhile, Switch, stop, ◌⨾◌, no_case, send_case, receive_case, no_arm, arm}
use Rattle.hc_core.specs.Read.{expression, target, statement, statements, statements_in, cases, cases_in, case_before, arms, arms_in}

pub read_Const : (n : Number) → expression (e.Const n) ≡ Constant n
unfolding expression
read_Const n = refl

pub read_Reg : (k : ℕ) → expression (e.Reg k) ≡ Register k
unfolding expression
read_Reg k = refl

pub read_Signal : (k : ℕ) → expression (e.Signal k) ≡ Signal k
unfolding expression
read_Signal k = refl

pub read_Input : (k : ℕ) → expression (e.Input k) ≡ Input k
unfolding expression
read_Input k = refl

pub read_Element : (k : ℕ) (i : Expr) → expression (e.Element k i) ≡ Element k (expression i)
unfolding expression eb.hidden-the_row-Expr-0 denote.Hole.Carrier.hidden
read_Element k i = refl

pub read_Word : (k : ℕ) (i : Expr) → expression (e.Word k i) ≡ Word k (expression i)
unfolding expression eb.hidden-the_row-Expr-0 denote.Hole.Carrier.hidden
read_Word k i = refl

pub read_Unary : (op : UnOp) (a : Expr) → expression (e.Unary op a) ≡ Unary op (expression a)
unfolding expression eb.hidden-the_row-Expr-0 denote.Hole.Carrier.hidden
read_Unary op a = refl

pub read_Binary : (op : BinOp) (a b : Expr) → expression (e.Binary op a b) ≡ Binary op (expression a) (expression b)
unfolding expression eb.hidden-the_row-Expr-0 denote.Hole.Carrier.hidden
read_Binary op a b = refl

pub read_Slice : (a : Expr) (high low : ℕ) → expression (e.Slice a high low) ≡ Slice (expression a) high low
unfolding expression eb.hidden-the_row-Expr-0 denote.Hole.Carrier.hidden
read_Slice a high low = refl

pub read_Choice : (c a b : Expr) → expression (e.Choice c a b) ≡ Choice (expression c) (expression a) (expression b)
unfolding expression eb.hidden-the_row-Expr-0 denote.Hole.Carrier.hidden
read_Choice c a b = refl

-- targets
pub read_to_Reg : (k : ℕ) → target (t.Reg k) ≡ ToRegister k
unfolding target
read_to_Reg k = refl

pub read_to_Element : (k : ℕ) (i : Expr) → target (t.Element k i) ≡ ToElement k (expression i)
unfolding target
read_to_Element k i = refl

pub read_to_Word : (k : ℕ) (i : Expr) → target (t.Word k i) ≡ ToWord k (expression i)
unfolding target
read_to_Word k i = refl

pub read_to_Signal : (k : ℕ) → target (t.Signal k) ≡ ToSignal k
unfolding target
read_to_Signal k = refl

-- lists
in_row : (m : _) (row : sb.Row_of-Stmt m) → statements_in row ≡ statements (items-the_row-Stmt m row)
unfolding statements_in statements
in_row m sb.end_of-Stmt = refl
in_row m (sb.more_of-Stmt first rest) = ap (λ l. statement first ⨾ l) (in_row _ rest)

row_is : (parts : List Stmt) → statements_in (sb.hidden-the_row-Stmt-2 parts) ≡ statements parts
row_is parts = in_row _ (sb.hidden-the_row-Stmt-2 parts) ∙ ap statements (items_hidden-the_row-Stmt-2 parts)

in_cases : (m : _) (row : sb.Row_of-Case m) → cases_in row ≡ cases (items-the_row-Case m row)
unfolding cases_in cases case_before
in_cases m sb.end_of-Case = refl
in_cases m (sb.more_of-Case (c.Send chan value first) rest) = ap (λ l. send_case chan (expression value) (statement first) l) (in_cases _ rest)
in_cases m (sb.more_of-Case (c.Recv chan to first) rest) = ap (λ l. receive_case chan (target to) (statement first) l) (in_cases _ rest)

cases_are : (all : List Case) → cases_in (sb.hidden-the_row-Case-0 all) ≡ cases all
cases_are all = in_cases _ (sb.hidden-the_row-Case-0 all) ∙ ap cases (items_hidden-the_row-Case-0 all)

in_arms : (m : _) (row : sb.Row_of-Arm m) → arms_in row ≡ arms (items-the_row-Arm m row)
unfolding arms_in arms
in_arms m sb.end_of-Arm = refl
in_arms m (sb.more_of-Arm values other body rest) = ap (λ l. arm values other (statement body) l) (in_arms _ rest)

arms_are : (all : List Arm) → arms_in (sb.hidden-the_row-Arm-3 all) ≡ arms all
arms_are all = in_arms _ (sb.hidden-the_row-Arm-3 all) ∙ ap arms (items_hidden-the_row-Arm-3 all)

pub read_Skip : statement s.Skip ≡ Skip
unfolding statement
read_Skip = refl

pub read_Assign : (place : Place) (to : Target) (value : Expr) → statement (s.Assign place to value) ≡ Assign place (target to) (expression value)
unfolding statement
read_Assign place to value = refl

pub read_Delay : (place : Place) → statement (s.Delay place) ≡ Delay place
unfolding statement
read_Delay place = refl

pub read_Send : (place : Place) (chan : ℕ) (value : Expr) → statement (s.Send place chan value) ≡ Send place chan (expression value)
unfolding statement
read_Send place chan value = refl

pub read_Recv : (place : Place) (chan : ℕ) (to : Target) → statement (s.Recv place chan to) ≡ Receive place chan (target to)
unfolding statement
read_Recv place chan to = refl

pub read_Seq : (place : Place) (parts : List Stmt) → statement (s.Seq place parts) ≡ Seq place (statements parts)
unfolding statement
read_Seq place parts = ap (λ l. Seq place l) (row_is parts)

pub read_Par : (place : Place) (branches : List Stmt) → statement (s.Par place branches) ≡ Par place (statements branches)
unfolding statement
read_Par place branches = ap (λ l. Par place l) (row_is branches)

pub read_If : (place : Place) (c : Expr) (a b : Stmt) → statement (s.If place c a b) ≡ If place (expression c) (statement a) (statement b)
unfolding statement sb.hidden-the_row-Stmt-1 denote.Hole.Carrier.hidden
read_If place c a b = refl

pub read_While : (place : Place) (c : Expr) (body : Stmt) → statement (s.While place c body) ≡ While place (expression c) (statement body)
unfolding statement sb.hidden-the_row-Stmt-1 denote.Hole.Carrier.hidden
read_While place c body = refl

pub read_DoWhile : (place : Place) (body : Stmt) (c : Expr) → statement (s.DoWhile place body c) ≡ DoWhile place (statement body) (expression c)
unfolding statement sb.hidden-the_row-Stmt-1 denote.Hole.Carrier.hidden
read_DoWhile place body c = refl

pub read_Switch : (place : Place) (selector : Expr) (all : List Arm) → statement (s.Switch place selector all) ≡ Switch place (expression selector) (arms all)
unfolding statement
read_Switch place selector all = ap (λ l. Switch place (expression selector) l) (arms_are all)

pub read_Prialt : (place : Place) (all : List Case) → statement (s.Prialt place all None) ≡ Prialt place (cases all)
unfolding statement
read_Prialt place all = ap (λ l. Prialt place l) (cases_are all)

pub read_PrialtElse : (place : Place) (all : List Case) (rest : Stmt) → statement (s.Prialt place all (Some rest)) ≡ PrialtElse place (cases all) (statement rest)
unfolding statement sb.hidden-the_row-Stmt-1 denote.Hole.Carrier.hidden
read_PrialtElse place all rest = ap (λ l. PrialtElse place l (statement rest)) (cases_are all)

-- a list from its first item on
pub read_no_statement : statements [] ≡ stop
unfolding statements
read_no_statement = refl

pub read_statements : (first : Stmt) (rest : List Stmt) → statements (first ∷ rest) ≡ statement first ⨾ statements rest
unfolding statements
read_statements first rest = refl

pub read_no_case : cases [] ≡ no_case
unfolding cases
read_no_case = refl

pub read_send_case : (chan : ℕ) (value : Expr) (first : Stmt) (rest : List Case)
    → cases (c.Send chan value first ∷ rest) ≡ send_case chan (expression value) (statement first) (cases rest)
unfolding cases case_before
read_send_case chan value first rest = refl

pub read_receive_case : (chan : ℕ) (to : Target) (first : Stmt) (rest : List Case)
    → cases (c.Recv chan to first ∷ rest) ≡ receive_case chan (target to) (statement first) (cases rest)
unfolding cases case_before
read_receive_case chan to first rest = refl

pub read_no_arm : arms [] ≡ no_arm
unfolding arms
read_no_arm = refl

pub read_arms : (first : Arm) (rest : List Arm) → arms (first ∷ rest) ≡ arm first.values first.other (statement first.body) (arms rest)
unfolding arms
read_arms first rest = refl

pub ruleset reading = (read_Const, read_Reg, read_Signal, read_Input, read_Element, read_Word, read_Unary, read_Binary, read_Slice, read_Choice, read_to_Reg, read_to_Element, read_to_Word, read_to_Signal, read_Skip, read_Assign, read_Delay, read_Send, read_Recv, read_Seq, read_Par, read_If, read_While, read_DoWhile, read_Switch, read_Prialt, read_PrialtElse, read_no_statement, read_statements, read_no_case, read_send_case, read_receive_case, read_no_arm, read_arms)
