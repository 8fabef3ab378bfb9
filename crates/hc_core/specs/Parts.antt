-- How many parts a core has: its objects, statements, cases, arms, label values, targets and expressions, each with all
-- that stands within it (this project's own).
use Rattle.std.specs.Prelude.{ℕ, ◌+◌, length}
use Rattle.std.specs.List.{sum_by}
use Rattle.hc_core.specs.Program.{Expression, Constant, Register, Element, Word, Signal, Input, Unary, Binary, Slice, Choice, Target, ToRegister, ToElement, ToWord, ToSignal, Statement, Skip, Assign, Delay, Send, Receive, Prialt, PrialtElse, Seq, Par, If, While, DoWhile, Switch, Statements, stop, ◌⨾◌, Cases, no_case, send_case, receive_case, Arms, no_arm, arm}
use Rattle.hc_core.specs.Read.{expression, statement}
use Rattle.hc_core.specs.Typed.{kinds_of}
use Rattle.hc_core.specs.declared.object.Kind.{Kind}
use Rattle.hc_core.specs.declared.object.Kind.TheVariants as kind
use Rattle.hc_core.specs.declared.object.Core.{Core}

-- the parts of an expression
abbrev pub expression_parts : Expression → ℕ
expression_parts (Constant n) = 1
expression_parts (Register k) = 1
expression_parts (Element k i) = 1 + expression_parts i
expression_parts (Word k i) = 1 + expression_parts i
expression_parts (Signal k) = 1
expression_parts (Input k) = 1
expression_parts (Unary op a) = 1 + expression_parts a
expression_parts (Binary op a b) = 1 + expression_parts a + expression_parts b
expression_parts (Slice a high low) = 1 + expression_parts a
expression_parts (Choice c a b) = 1 + expression_parts c + expression_parts a + expression_parts b

-- the parts of a target
abbrev pub target_parts : Target → ℕ
target_parts (ToRegister k) = 1
target_parts (ToElement k i) = 1 + expression_parts i
target_parts (ToWord k i) = 1 + expression_parts i
target_parts (ToSignal k) = 1

-- the parts of a statement
abbrev mutual
  pub statement_parts : Statement → ℕ
  statement_parts Skip = 1
  statement_parts (Assign place t e) = 1 + target_parts t + expression_parts e
  statement_parts (Delay place) = 1
  statement_parts (Send place chan e) = 1 + expression_parts e
  statement_parts (Receive place chan t) = 1 + target_parts t
  statement_parts (Prialt place cases) = 1 + cases_parts cases
  statement_parts (PrialtElse place cases rest) = 1 + cases_parts cases + statement_parts rest
  statement_parts (Seq place parts) = 1 + all_parts parts
  statement_parts (Par place branches) = 1 + all_parts branches
  statement_parts (If place c a b) = 1 + expression_parts c + statement_parts a + statement_parts b
  statement_parts (While place c body) = 1 + expression_parts c + statement_parts body
  statement_parts (DoWhile place body c) = 1 + expression_parts c + statement_parts body
  statement_parts (Switch place e arms) = 1 + expression_parts e + arms_parts arms

  pub all_parts : Statements → ℕ
  all_parts stop = 0
  all_parts (first ⨾ rest) = statement_parts first + all_parts rest

  pub cases_parts : Cases → ℕ
  cases_parts no_case = 0
  cases_parts (send_case chan e first rest) = 1 + expression_parts e + statement_parts first + cases_parts rest
  cases_parts (receive_case chan t first rest) = 1 + target_parts t + statement_parts first + cases_parts rest

  pub arms_parts : Arms → ℕ
  arms_parts no_arm = 0
  arms_parts (arm values other body rest) = 1 + length values + statement_parts body + arms_parts rest

-- the parts of an object: itself, and the expression of an output
abbrev pub kind_parts : Kind → ℕ
kind_parts (kind.Reg w s init) = 1
kind_parts (kind.Array w s n init) = 1
kind_parts (kind.Ram w s n init) = 1
kind_parts (kind.Rom w s n init) = 1
kind_parts (kind.Signal w s unset) = 1
kind_parts (kind.Chan w s queue) = 1
kind_parts (kind.Input w s pins) = 1
kind_parts (kind.Output w s pins value) = 1 + expression_parts (expression value)

-- the parts of a core
abbrev pub parts_of : Core → ℕ
parts_of core = sum_by kind_parts (kinds_of core.objects) + statement_parts (statement core.main)
