-- Worked rows of the weight and of the flip-flops, computed.
use Rattle.std.proofs.Common.{◌≡◌, ℕ, List, [], ◌∷◌, map, true, false, refl}
use Rattle.hc_num.specs.Number.{Number}
use Rattle.hc_num.specs.Index.{index_width}
use Rattle.hc_tree.specs.declared.place.Place.{Place}
use Rattle.hc_core.specs.Program.{Expression, Constant, Register, Element, Word, Unary, Binary, Slice, Choice, ToRegister, ToElement, ToWord, Statement, Skip, Delay, Send, Receive, PrialtElse, Par, If, While, DoWhile, Switch, stop, ◌⨾◌, no_case, send_case, no_arm, arm}
use Rattle.hc_core.specs.Read.{expression, target, statement, statements_in}
use Rattle.hc_core.specs.Parts.{parts_of}
use Rattle.hc_core.specs.Weight.{expression_weight, target_weight, statement_weight, kind_weight, weight_of, statement_flops, flops_of}
use Rattle.hc_core.specs.declared.expr.UnOp.TheVariants.{Neg, Not, IsZero, ToSigned, ToUnsigned}
use Rattle.hc_core.specs.declared.expr.BinOp.TheVariants.{Add, Mul, Div, And, Eq, Lt, Shl, Concat, Take, Both}
use Rattle.hc_core.specs.declared.expr.Expr.TheVariants as e
use Rattle.hc_core.specs.declared.expr.Expr.TheBlock as eb
use Rattle.hc_core.specs.declared.stmt.Stmt.TheVariants as s
use Rattle.hc_core.specs.declared.stmt.Case.TheBlock as sb
use Rattle.hc_core.specs.declared.stmt.Target.TheVariants as t
use Rattle.hc_core.specs.declared.object.Kind.{Kind}
use Rattle.hc_core.specs.declared.object.Kind.TheVariants as kind
use Rattle.hc_core.specs.declared.object.Object.{Object}
use Rattle.hc_core.specs.declared.object.Core.{Core}

abbrev here : Place
here = record { line = 1; column = 1 }

abbrev number : ℕ → ℕ → Number
number width bits = record { width = width; signed = false; bits = bits }

abbrev object : Kind → Object
object kind = record { name = 120 ∷ []; place = here; kind = kind }

-- `unsigned 4 x;` with `x = 5; delay; x = x + 1;`
abbrev first_core : Core
first_core = record {
  objects = object (kind.Reg 4 false (number 4 0)) ∷ [];
  main = s.Seq here (s.Assign here (t.Reg 0) (e.Const (number 4 5)) ∷ s.Delay here ∷ s.Assign here (t.Reg 0) (e.Binary Add (e.Reg 0) (e.Const (number 4 1))) ∷ []);
  clock = 99 ∷ [];
}

first_weight : weight_of first_core ≡ 344
unfolding statement statements_in target expression eb.hidden-the_row-Expr-0 sb.hidden-the_row-Stmt-2 denote.Hole.Carrier.hidden
first_weight = refl

first_flops : flops_of first_core ≡ 8
unfolding statement statements_in target expression eb.hidden-the_row-Expr-0 sb.hidden-the_row-Stmt-2 denote.Hole.Carrier.hidden
first_flops = refl

-- one object, four statements, two targets and four expressions
first_parts : parts_of first_core ≡ 11
unfolding statement statements_in target expression eb.hidden-the_row-Expr-0 sb.hidden-the_row-Stmt-2 denote.Hole.Carrier.hidden
first_parts = refl

-- registers x of 5 bits, c of 3 and i of 2, an array and a RAM of three times 5 bits, and a channel of 5
abbrev kinds : List Kind
kinds = kind.Reg 5 false (number 5 0) ∷ kind.Reg 3 false (number 3 0) ∷ kind.Reg 2 false (number 2 0) ∷ kind.Array 5 false 3 []
    ∷ kind.Ram 5 false 3 [] ∷ kind.Chan 5 false 0 ∷ []

abbrev x : Expression
x = Register 0

abbrev c : Expression
c = Register 1

abbrev i : Expression
i = Register 2

abbrev one : Expression
one = Constant (number 2 1)

-- 14 for a register and a signal, 14 and 15 / 8 for a ROM, 3 * 14, 14 and 15 / 8, 18, 5, and 5 with 40 of a sum
object_weights : map (kind_weight kinds) (kind.Reg 5 false (number 5 0) ∷ kind.Signal 5 false (number 5 0) ∷ kind.Rom 5 false 3 [] ∷ kind.Array 5 false 3 [] ∷ kind.Ram 5 false 3 [] ∷ kind.Chan 5 false 0 ∷ kind.Input 5 false []
    ∷ kind.Output 5 false [] (e.Binary Add (e.Reg 0) (e.Reg 0)) ∷ []) ≡ 14 ∷ 14 ∷ 15 ∷ 42 ∷ 15 ∷ 18 ∷ 5 ∷ 45 ∷ []
unfolding expression eb.hidden-the_row-Expr-0 denote.Hole.Carrier.hidden
object_weights = refl

-- an element by a constant, by a register, and by a sum; a word by a constant, and by a sum
read_weights : map (expression_weight kinds) (Element 3 one ∷ Element 3 i ∷ Element 3 (Binary Add i one) ∷ Word 4 one ∷ Word 4 (Binary Add i one) ∷ [])
    ≡ 0 ∷ 40 ∷ 56 ∷ 8 ∷ 24 ∷ []
unfolding index_width
read_weights = refl

unary_weights : map (λ op. expression_weight kinds (Unary op x)) (Neg ∷ Not ∷ IsZero ∷ ToSigned ∷ ToUnsigned ∷ []) ≡ 40 ∷ 5 ∷ 7 ∷ 0 ∷ 0 ∷ []
unary_weights = refl

binary_weights : map (λ op. expression_weight kinds (Binary op x c)) (Add ∷ Mul ∷ Div ∷ And ∷ Eq ∷ Lt ∷ Shl ∷ Concat ∷ Both ∷ [])
    ≡ 40 ∷ 200 ∷ 520 ∷ 5 ∷ 20 ∷ 44 ∷ 80 ∷ 0 ∷ 10 ∷ []
binary_weights = refl

-- a shift by a constant, a choice, and a take, whose operand counts
other_weights : map (expression_weight kinds) (Binary Shl x one ∷ Choice c x x ∷ Slice x 1 0 ∷ Binary Take (Unary Neg x) one ∷ []) ≡ 0 ∷ 24 ∷ 0 ∷ 40 ∷ []
other_weights = refl

target_weights : map (target_weight kinds) (ToRegister 0 ∷ ToElement 3 one ∷ ToElement 3 i ∷ ToWord 4 one ∷ ToWord 4 (Binary Add i one) ∷ [])
    ≡ 10 ∷ 10 ∷ 50 ∷ 18 ∷ 34 ∷ []
unfolding index_width
target_weights = refl

-- one `if`, one `while` and one `do` on c, a `par` of two parts, a `switch` on c with two label values and a default, a send,
-- a receive, and a `prialt` of one case with a default
abbrev statements : List Statement
statements = If here c (Delay here) Skip ∷ While here c (Delay here) ∷ DoWhile here (Delay here) c ∷ Par here (Delay here ⨾ Delay here ⨾ stop)
    ∷ Switch here c (arm (number 3 1 ∷ number 3 2 ∷ []) false (Delay here) (arm [] true Skip no_arm))
    ∷ Send here 5 x ∷ Receive here 5 (ToRegister 0) ∷ PrialtElse here (send_case 5 x (Delay here) no_case) Skip ∷ []

statement_weights : map (statement_weight kinds) statements ≡ 83 ∷ 83 ∷ 83 ∷ 152 ∷ 140 ∷ 50 ∷ 60 ∷ 130 ∷ []
statement_weights = refl

statement_flops_are : map statement_flops statements ≡ 1 ∷ 1 ∷ 1 ∷ 4 ∷ 1 ∷ 2 ∷ 2 ∷ 3 ∷ []
statement_flops_are = refl
