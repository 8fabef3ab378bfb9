-- The program of a core: its statement, expressions and targets as plain data.
use Rattle.std.specs.Prelude.{List, [], ◌∷◌}
use Rattle.hc_core.specs.declared.expr.Expr.{Expr}
use Rattle.hc_core.specs.declared.expr.Expr.TheVariants as e
use Rattle.hc_core.specs.declared.expr.Expr.TheBlock as eb
use Rattle.hc_core.specs.declared.stmt.Target as t
use Rattle.hc_core.specs.declared.stmt.Target.TheVariants as tv
use Rattle.hc_core.specs.declared.stmt.Stmt.{Stmt}
use Rattle.hc_core.specs.declared.stmt.Stmt.TheVariants as s
use Rattle.hc_core.specs.declared.stmt.Case.{Case}
use Rattle.hc_core.specs.declared.stmt.Case.TheVariants as c
use Rattle.hc_core.specs.declared.stmt.Case.TheBlock as sb
use Rattle.hc_core.specs.declared.stmt.Arm.{Arm}
use Rattle.hc_core.specs.Program.{Expression, Constant, Register, Element, Word, Signal, Input, Unary, Binary, Slice, Choice, Target, ToRegister, ToElement, ToWord, ToSignal, Statement, Skip, Assign, Delay, Send, Receive, Prialt, PrialtElse, Seq, Par, If, While, DoWhile, Switch, Statements, stop, ◌⨾◌, Cases, no_case, send_case, receive_case, Arms, no_arm, arm}

-- the expression of the program
unfoldable pub expression : Expr → Expression
expression (e.Const n) = Constant n
expression (e.Reg k) = Register k
expression (e.Element' k p (eb.more_of-Expr i eb.end_of-Expr)) = Element k (expression i)
expression (e.Word' k p (eb.more_of-Expr i eb.end_of-Expr)) = Word k (expression i)
expression (e.Signal k) = Signal k
expression (e.Input k) = Input k
expression (e.Unary' op p (eb.more_of-Expr a eb.end_of-Expr)) = Unary op (expression a)
expression (e.Binary' op p (eb.more_of-Expr a eb.end_of-Expr) q (eb.more_of-Expr b eb.end_of-Expr)) = Binary op (expression a) (expression b)
expression (e.Slice' p (eb.more_of-Expr a eb.end_of-Expr) high low) = Slice (expression a) high low
expression (e.Choice' p (eb.more_of-Expr c eb.end_of-Expr) q (eb.more_of-Expr a eb.end_of-Expr) r (eb.more_of-Expr b eb.end_of-Expr)) = Choice (expression c) (expression a) (expression b)

-- the target of the program
unfoldable pub target : t.Target → Target
target (tv.Reg k) = ToRegister k
target (tv.Element k i) = ToElement k (expression i)
target (tv.Word k i) = ToWord k (expression i)
target (tv.Signal k) = ToSignal k

-- the statement of the program
unfoldable mutual
  pub statement : Stmt → Statement
  statement s.Skip = Skip
  statement (s.Assign place to value) = Assign place (target to) (expression value)
  statement (s.Delay place) = Delay place
  statement (s.Send place chan value) = Send place chan (expression value)
  statement (s.Recv place chan to) = Receive place chan (target to)
  statement (s.Prialt' place m cases sb.None') = Prialt place (cases_in cases)
  statement (s.Prialt' place m cases (sb.Some' p (sb.more_of-Stmt rest sb.end_of-Stmt))) = PrialtElse place (cases_in cases) (statement rest)
  statement (s.Seq' place m parts) = Seq place (statements_in parts)
  statement (s.Par' place m branches) = Par place (statements_in branches)
  statement (s.If' place c p (sb.more_of-Stmt a sb.end_of-Stmt) q (sb.more_of-Stmt b sb.end_of-Stmt)) = If place (expression c) (statement a) (statement b)
  statement (s.While' place c p (sb.more_of-Stmt body sb.end_of-Stmt)) = While place (expression c) (statement body)
  statement (s.DoWhile' place p (sb.more_of-Stmt body sb.end_of-Stmt) c) = DoWhile place (statement body) (expression c)
  statement (s.Switch' place selector m arms) = Switch place (expression selector) (arms_in arms)

  pub statements_in : {m : _} → sb.Row_of-Stmt m → Statements
  statements_in sb.end_of-Stmt = stop
  statements_in (sb.more_of-Stmt first rest) = statement first ⨾ statements_in rest

  pub cases_in : {m : _} → sb.Row_of-Case m → Cases
  cases_in sb.end_of-Case = no_case
  cases_in (sb.more_of-Case (c.Send chan value first) rest) = send_case chan (expression value) (statement first) (cases_in rest)
  cases_in (sb.more_of-Case (c.Recv chan to first) rest) = receive_case chan (target to) (statement first) (cases_in rest)

  pub arms_in : {m : _} → sb.Row_of-Arm m → Arms
  arms_in sb.end_of-Arm = no_arm
  arms_in (sb.more_of-Arm values other body rest) = arm values other (statement body) (arms_in rest)

-- the statements of a list
unfoldable pub statements : List Stmt → Statements
statements [] = stop
statements (first ∷ rest) = statement first ⨾ statements rest

-- a case in front of others
unfoldable pub case_before : Case → Cases → Cases
case_before (c.Send chan value first) rest = send_case chan (expression value) (statement first) rest
case_before (c.Recv chan to first) rest = receive_case chan (target to) (statement first) rest

-- the cases of a list
unfoldable pub cases : List Case → Cases
cases [] = no_case
cases (first ∷ rest) = case_before first (cases rest)

-- the arms of a list
unfoldable pub arms : List Arm → Arms
arms [] = no_arm
arms (first ∷ rest) = arm first.values first.other (statement first.body) (arms rest)
