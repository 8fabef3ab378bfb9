-- Which statements may take no clock (this project's own).
use Rattle.std.specs.Prelude.{Bool, true, false, not, ◌&&◌, ◌||◌, ◌==◌}
use Rattle.hc_core.specs.Program.{Expression, Constant, Register, Element, Word, Signal, Input, Unary, Binary, Slice, Choice, Statement, Skip, Assign, Delay, Send, Receive, Prialt, PrialtElse, Seq, Par, If, While, DoWhile, Switch, Statements, stop, ◌⨾◌, Arms, no_arm, arm}

-- whether an expression is a constant that isn't 0
abbrev pub always_holds : Expression → Bool
always_holds (Constant n) = not (n.bits == 0)
always_holds (Register k) = false
always_holds (Element k i) = false
always_holds (Word k i) = false
always_holds (Signal k) = false
always_holds (Input k) = false
always_holds (Unary op a) = false
always_holds (Binary op a b) = false
always_holds (Slice a high low) = false
always_holds (Choice c a b) = false

-- whether an arm of a `switch` has the label `default`
abbrev pub has_default : Arms → Bool
has_default no_arm = false
has_default (arm values other body rest) = other || has_default rest

abbrev mutual
  -- whether a statement may take no clock
  pub zero : Statement → Bool
  zero Skip = true
  zero (Assign place t e) = false
  zero (Delay place) = false
  zero (Send place chan e) = false
  zero (Receive place chan t) = false
  zero (Prialt place cases) = false
  zero (PrialtElse place cases rest) = zero rest
  zero (Seq place parts) = all_zero parts
  zero (Par place branches) = all_zero branches
  zero (If place c a b) = zero a || zero b
  zero (While place c body) = not (always_holds c)
  zero (DoWhile place body c) = zero body
  zero (Switch place e arms) = some_zero arms || not (has_default arms)

  -- whether all statements of a list may
  pub all_zero : Statements → Bool
  all_zero stop = true
  all_zero (first ⨾ rest) = zero first && all_zero rest

  -- whether an arm of a `switch` may
  pub some_zero : Arms → Bool
  some_zero no_arm = false
  some_zero (arm values other body rest) = zero body || some_zero rest
