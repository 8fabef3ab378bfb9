-- The weight of a core, which bounds the gates of its netlist, and how many flip-flops that has (this project's own). Each
-- clause adds up one form; w is a width in bits, n a length and a the width of an index.
use Rattle.std.specs.Prelude.{ℕ, ◌+◌, ◌*◌, ◌/◌, List, length, Bool, true, false, if◌then◌else◌, Option, Some, None, slice_get}
use Rattle.std.specs.List.{sum_by}
use Rattle.hc_num.specs.Index.{index_width}
use Rattle.hc_core.specs.Program.{Expression, Constant, Register, Element, Word, Signal, Input, Unary, Binary, Slice, Choice, Target, ToRegister, ToElement, ToWord, ToSignal, Statement, Skip, Assign, Delay, Send, Receive, Prialt, PrialtElse, Seq, Par, If, While, DoWhile, Switch, Statements, stop, ◌⨾◌, Cases, no_case, send_case, receive_case, Arms, no_arm, arm}
use Rattle.hc_core.specs.Read.{expression, statement}
use Rattle.hc_core.specs.Typed.{kinds_of, kind_width, width_of}
use Rattle.hc_core.specs.declared.expr.UnOp.{UnOp}
use Rattle.hc_core.specs.declared.expr.UnOp.TheVariants.{Neg, Not, IsZero, ToSigned, ToUnsigned}
use Rattle.hc_core.specs.declared.expr.BinOp.{BinOp}
use Rattle.hc_core.specs.declared.expr.BinOp.TheVariants.{Add, Sub, Mul, Div, Rem, And, Or, Xor, Eq, Ne, Lt, Le, Gt, Ge, Shl, Shr, Concat, Take, Drop, Both, Either}
use Rattle.hc_core.specs.declared.object.Kind.{Kind}
use Rattle.hc_core.specs.declared.object.Kind.TheVariants as kind
use Rattle.hc_core.specs.declared.object.Core.{Core}

-- ---- expressions

-- how many elements or words an object has
abbrev pub kind_length : Option Kind → ℕ
kind_length None = 0
kind_length (Some (kind.Reg w s init)) = 0
kind_length (Some (kind.Array w s n init)) = n
kind_length (Some (kind.Ram w s n init)) = n
kind_length (Some (kind.Rom w s n init)) = n
kind_length (Some (kind.Signal w s unset)) = 0
kind_length (Some (kind.Chan w s queue)) = 0
kind_length (Some (kind.Input w s pins)) = 0
kind_length (Some (kind.Output w s pins value)) = 0

-- whether an expression is a constant
abbrev pub is_constant : Expression → Bool
is_constant (Constant n) = true
is_constant (Register k) = false
is_constant (Element k i) = false
is_constant (Word k i) = false
is_constant (Signal k) = false
is_constant (Input k) = false
is_constant (Unary op a) = false
is_constant (Binary op a b) = false
is_constant (Slice a high low) = false
is_constant (Choice c a b) = false

-- an operator before an operand
abbrev pub unary_weight : UnOp → ℕ → ℕ
unary_weight Neg w = 8 * w
unary_weight Not w = w
unary_weight IsZero w = w + 2
unary_weight ToSigned w = 0
unary_weight ToUnsigned w = 0

-- an operator between operands of widths w and v, of which the second may be a constant
abbrev pub binary_weight : BinOp → Bool → ℕ → ℕ → ℕ
binary_weight Add fixed w v = 8 * w
binary_weight Sub fixed w v = 8 * w
binary_weight Mul fixed w v = 8 * (w * w)
binary_weight Div fixed w v = 16 * (w * w) + 24 * w
binary_weight Rem fixed w v = 16 * (w * w) + 24 * w
binary_weight And fixed w v = w
binary_weight Or fixed w v = w
binary_weight Xor fixed w v = w
binary_weight Eq fixed w v = 4 * w
binary_weight Ne fixed w v = 4 * w
binary_weight Lt fixed w v = 8 * w + 4
binary_weight Le fixed w v = 8 * w + 4
binary_weight Gt fixed w v = 8 * w + 4
binary_weight Ge fixed w v = 8 * w + 4
binary_weight Shl fixed w v = if fixed then 0 else 4 * (w * v) + 4 * w
binary_weight Shr fixed w v = if fixed then 0 else 4 * (w * v) + 4 * w
binary_weight Concat fixed w v = 0
binary_weight Take fixed w v = 0
binary_weight Drop fixed w v = 0
binary_weight Both fixed w v = w + v + 2
binary_weight Either fixed w v = w + v + 2

-- reading an element of an array of n elements of width w
abbrev pub element_weight : Bool → ℕ → ℕ → ℕ
element_weight fixed n w = if fixed then 0 else n * (index_width n + 2 * w) + 2 * index_width n

-- reading a word of n words
abbrev pub word_weight : ℕ → ℕ
word_weight n = 2 * index_width n + 4

-- an expression, with all that stands within it
abbrev pub expression_weight : List Kind → Expression → ℕ
expression_weight kinds (Constant n) = 0
expression_weight kinds (Register k) = 0
expression_weight kinds (Element k i) =
    element_weight (is_constant i) (kind_length (slice_get kinds k)) (kind_width (slice_get kinds k)) + expression_weight kinds i
expression_weight kinds (Word k i) = word_weight (kind_length (slice_get kinds k)) + expression_weight kinds i
expression_weight kinds (Signal k) = 0
expression_weight kinds (Input k) = 0
expression_weight kinds (Unary op a) = unary_weight op (width_of kinds a) + expression_weight kinds a
expression_weight kinds (Binary op a b) =
    binary_weight op (is_constant b) (width_of kinds a) (width_of kinds b) + expression_weight kinds a + expression_weight kinds b
expression_weight kinds (Slice a high low) = expression_weight kinds a
expression_weight kinds (Choice c a b) =
    width_of kinds c + 4 * width_of kinds a + 1 + expression_weight kinds c + expression_weight kinds a + expression_weight kinds b

-- a condition: its width, and the expression
abbrev pub condition_weight : List Kind → Expression → ℕ
condition_weight kinds c = width_of kinds c + expression_weight kinds c

-- ---- targets and statements

-- writing an element of an array of n elements of width w
abbrev pub to_element_weight : Bool → ℕ → ℕ → ℕ
to_element_weight fixed n w = if fixed then 2 * w else n * (index_width n + 2 * w + 4) + index_width n

-- writing a word of n words of width w
abbrev pub to_word_weight : ℕ → ℕ → ℕ
to_word_weight n w = 2 * index_width n + 2 * w + 4

-- a target, with its index
abbrev pub target_weight : List Kind → Target → ℕ
target_weight kinds (ToRegister k) = 2 * kind_width (slice_get kinds k)
target_weight kinds (ToElement k i) =
    to_element_weight (is_constant i) (kind_length (slice_get kinds k)) (kind_width (slice_get kinds k)) + expression_weight kinds i
target_weight kinds (ToWord k i) =
    to_word_weight (kind_length (slice_get kinds k)) (kind_width (slice_get kinds k)) + expression_weight kinds i
target_weight kinds (ToSignal k) = 2 * kind_width (slice_get kinds k)

-- a send, a receive or a case, by its channel
abbrev pub channel_weight : List Kind → ℕ → ℕ
channel_weight kinds chan = 2 * kind_width (slice_get kinds chan)

abbrev mutual
  -- a statement, with all that stands within it
  pub statement_weight : List Kind → Statement → ℕ
  statement_weight kinds Skip = 0
  statement_weight kinds (Assign place t e) = 40 + target_weight kinds t + expression_weight kinds e
  statement_weight kinds (Delay place) = 40
  statement_weight kinds (Send place chan e) = 40 + channel_weight kinds chan + expression_weight kinds e
  statement_weight kinds (Receive place chan t) = 40 + channel_weight kinds chan + target_weight kinds t
  statement_weight kinds (Prialt place cases) = 40 + cases_weight kinds cases
  statement_weight kinds (PrialtElse place cases rest) = 40 + cases_weight kinds cases + statement_weight kinds rest
  statement_weight kinds (Seq place parts) = 40 + list_weight kinds 8 parts
  statement_weight kinds (Par place branches) = 40 + list_weight kinds 16 branches
  statement_weight kinds (If place c a b) = 40 + condition_weight kinds c + statement_weight kinds a + statement_weight kinds b
  statement_weight kinds (While place c body) = 40 + condition_weight kinds c + statement_weight kinds body
  statement_weight kinds (DoWhile place body c) = 40 + condition_weight kinds c + statement_weight kinds body
  statement_weight kinds (Switch place e arms) = 40 + expression_weight kinds e + arms_weight kinds (2 * width_of kinds e + 8) arms

  -- the statements of a list, with so much for each of them
  pub list_weight : List Kind → ℕ → Statements → ℕ
  list_weight kinds each stop = 0
  list_weight kinds each (first ⨾ rest) = each + statement_weight kinds first + list_weight kinds each rest

  -- the cases of a `prialt`
  pub cases_weight : List Kind → Cases → ℕ
  cases_weight kinds no_case = 0
  cases_weight kinds (send_case chan e first rest) =
      40 + channel_weight kinds chan + expression_weight kinds e + statement_weight kinds first + cases_weight kinds rest
  cases_weight kinds (receive_case chan t first rest) =
      40 + channel_weight kinds chan + target_weight kinds t + statement_weight kinds first + cases_weight kinds rest

  -- the arms of a `switch`, with so much for each of their label values
  pub arms_weight : List Kind → ℕ → Arms → ℕ
  arms_weight kinds each no_arm = 0
  arms_weight kinds each (arm values other body rest) = each * length values + 16 + statement_weight kinds body + arms_weight kinds each rest

-- ---- objects and cores

-- an object
abbrev pub kind_weight : List Kind → Kind → ℕ
kind_weight kinds (kind.Reg w s init) = 2 * w + 4
kind_weight kinds (kind.Array w s n init) = n * (2 * w + 4)
kind_weight kinds (kind.Ram w s n init) = 2 * w + 4 + (n * w) / 8
kind_weight kinds (kind.Rom w s n init) = 2 * w + 4 + (n * w) / 8
kind_weight kinds (kind.Signal w s unset) = 2 * w + 4
kind_weight kinds (kind.Chan w s queue) = 2 * w + 8
kind_weight kinds (kind.Input w s pins) = w
kind_weight kinds (kind.Output w s pins value) = w + expression_weight kinds (expression value)

-- the weight of a core
abbrev pub weight_of : Core → ℕ
weight_of core =
    100 + sum_by (kind_weight (kinds_of core.objects)) (kinds_of core.objects) + statement_weight (kinds_of core.objects) (statement core.main)

-- ---- flip-flops

abbrev mutual
  -- the flip-flops of a statement's control
  pub statement_flops : Statement → ℕ
  statement_flops Skip = 0
  statement_flops (Assign place t e) = 1
  statement_flops (Delay place) = 1
  statement_flops (Send place chan e) = 2
  statement_flops (Receive place chan t) = 2
  statement_flops (Prialt place cases) = 1 + cases_flops cases
  statement_flops (PrialtElse place cases rest) = 1 + cases_flops cases + statement_flops rest
  statement_flops (Seq place parts) = list_flops 0 parts
  statement_flops (Par place branches) = list_flops 1 branches
  statement_flops (If place c a b) = statement_flops a + statement_flops b
  statement_flops (While place c body) = statement_flops body
  statement_flops (DoWhile place body c) = statement_flops body
  statement_flops (Switch place e arms) = arms_flops arms

  -- the statements of a list, with so many for each of them
  pub list_flops : ℕ → Statements → ℕ
  list_flops each stop = 0
  list_flops each (first ⨾ rest) = each + statement_flops first + list_flops each rest

  -- each case of a `prialt` has one more
  pub cases_flops : Cases → ℕ
  cases_flops no_case = 0
  cases_flops (send_case chan e first rest) = 1 + statement_flops first + cases_flops rest
  cases_flops (receive_case chan t first rest) = 1 + statement_flops first + cases_flops rest

  pub arms_flops : Arms → ℕ
  arms_flops no_arm = 0
  arms_flops (arm values other body rest) = statement_flops body + arms_flops rest

-- the flip-flops of an object: its bits, where it is a register or an array
abbrev pub kind_flops : Kind → ℕ
kind_flops (kind.Reg w s init) = w
kind_flops (kind.Array w s n init) = n * w
kind_flops (kind.Ram w s n init) = 0
kind_flops (kind.Rom w s n init) = 0
kind_flops (kind.Signal w s unset) = 0
kind_flops (kind.Chan w s queue) = 0
kind_flops (kind.Input w s pins) = 0
kind_flops (kind.Output w s pins value) = 0

-- the flip-flops of a core
abbrev pub flops_of : Core → ℕ
flops_of core = 1 + sum_by kind_flops (kinds_of core.objects) + statement_flops (statement core.main)
