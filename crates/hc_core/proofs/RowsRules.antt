-- Worked rows of the static rules, computed.
use Rattle.std.proofs.Common.{◌≡◌, ℕ, List, [], ◌∷◌, map, true, false, Some, None, refl}
use Rattle.hc_num.specs.Number.{Number}
use Rattle.hc_tree.specs.declared.place.Place.{Place}
use Rattle.hc_tree.specs.declared.refusal.Rule.TheVariants.{S16, S18, S20, S21}
use Rattle.hc_tree.specs.declared.refusal.Detail.TheVariants.{Nothing, Name}
use Rattle.hc_core.specs.Program.{Expression, Register, Element, Word, Binary, ToRegister, ToElement, ToWord, Statement, Skip, Assign, Delay, Send, Receive, Prialt, PrialtElse, Seq, Par, If, While, DoWhile, Switch, stop, ◌⨾◌, Cases, no_case, send_case, receive_case, no_arm, arm}
use Rattle.hc_core.specs.Read.{expression, target, statement, statements_in, cases_in}
use Rattle.hc_core.specs.FirstPlace.{first_where}
use Rattle.hc_core.specs.Rules.{least, repeated, endless, both_cases, two_cases, accessed_twice, in_a_case, in_an_output, repeats_label, first_broken}
use Rattle.hc_core.specs.declared.expr.BinOp.TheVariants.{Add}
use Rattle.hc_core.specs.declared.expr.Expr.TheVariants as e
use Rattle.hc_core.specs.declared.expr.Expr.TheBlock as eb
use Rattle.hc_core.specs.declared.stmt.Stmt.{Stmt}
use Rattle.hc_core.specs.declared.stmt.Stmt.TheVariants as s
use Rattle.hc_core.specs.declared.stmt.Case.{Case}
use Rattle.hc_core.specs.declared.stmt.Case.TheVariants as c
use Rattle.hc_core.specs.declared.expr.Expr.{Expr}
use Rattle.hc_core.specs.declared.stmt.Case.TheBlock as sb
use Rattle.hc_core.specs.declared.stmt.Target.TheVariants as t
use Rattle.hc_core.specs.declared.object.Kind.{Kind}
use Rattle.hc_core.specs.declared.object.Kind.TheVariants as kind
use Rattle.hc_core.specs.declared.object.Object.{Object}
use Rattle.hc_core.specs.declared.object.Core.{Core}

-- the first column of a line
abbrev line : ℕ → Place
line n = record { line = n; column = 1 }

abbrev number : ℕ → Number
number bits = record { width = 4; signed = false; bits = bits }

abbrev x : Expression
x = Register 0

-- a word of the RAM of this number
abbrev m : ℕ → Expression
m k = Word k x

abbrev delay : Statement
delay = Delay (line 9)

-- a loop that takes a clock in its body, and one that doesn't
abbrev waits : ℕ → Statement
waits n = While (line n) x delay

abbrev spins : ℕ → Statement
spins n = While (line n) x Skip

-- the number that stands twice is named once, the least of several
doubles : map (λ numbers. least (repeated numbers)) ([] ∷ (3 ∷ 2 ∷ []) ∷ (3 ∷ 2 ∷ 3 ∷ []) ∷ (3 ∷ 2 ∷ 3 ∷ 2 ∷ []) ∷ (5 ∷ 5 ∷ 5 ∷ []) ∷ [])
    ≡ None ∷ None ∷ Some 3 ∷ Some 2 ∷ Some 5 ∷ []
doubles = refl

-- an outer loop before one within it, the left one before the right one
outer_first : first_where endless (While (line 1) x (DoWhile (line 2) Skip x)) ≡ Some (line 1, None)
outer_first = refl

left_first : first_where endless (Seq (line 1) (waits 2 ⨾ If (line 3) x (spins 4) (spins 5) ⨾ spins 6 ⨾ stop)) ≡ Some (line 4, None)
left_first = refl

within : first_where endless (PrialtElse (line 1) (send_case 1 x delay (receive_case 1 (ToRegister 0) (spins 2) no_case)) (spins 3)) ≡ Some (line 2, None)
within = refl

in_default : first_where endless (PrialtElse (line 1) (send_case 1 x delay no_case) (spins 3)) ≡ Some (line 3, None)
in_default = refl

in_arms : first_where endless (Switch (line 1) x (arm [] false delay (arm [] true (Par (line 3) (delay ⨾ spins 4 ⨾ stop)) no_arm))) ≡ Some (line 4, None)
in_arms = refl

none_endless : first_where endless (Seq (line 1) (waits 2 ⨾ DoWhile (line 3) delay x ⨾ stop)) ≡ None
none_endless = refl

-- a channel in a send case and in a receive case, each in an arm or a branch of its own; two of one kind are none
abbrev ends : Cases → Cases → Statement
ends first second = Par (line 1) (Prialt (line 2) first ⨾ While (line 3) x (PrialtElse (line 4) second delay) ⨾ stop)

both_ends : both_cases (ends (send_case 7 x delay no_case) (receive_case 7 (ToRegister 0) delay no_case)) 7 (kind.Chan 4 false 0) ≡ Some (Some 7)
both_ends = refl

in_an_arm : both_cases (Prialt (line 2) (send_case 7 x (Prialt (line 3) (receive_case 7 (ToRegister 0) delay no_case)) no_case)) 7 (kind.Chan 4 false 0) ≡ Some (Some 7)
in_an_arm = refl

one_end : map (λ k. both_cases (ends (send_case 7 x delay no_case) (send_case 7 x delay (receive_case 8 (ToRegister 0) delay no_case))) k (kind.Chan 4 false 0)) (7 ∷ 8 ∷ 9 ∷ [])
    ≡ None ∷ None ∷ None ∷ []
one_end = refl

-- a plain send is no case
plain_end : both_cases (Par (line 1) (Send (line 2) 7 x ⨾ Prialt (line 3) (receive_case 7 (ToRegister 0) delay no_case) ⨾ stop)) 7 (kind.Chan 4 false 0) ≡ None
plain_end = refl

-- two cases of one `prialt` on one channel; what stands in its arms is not counted, nor another `prialt`
abbrev twice : ℕ → ℕ → Statement → Statement
twice a b within = Prialt (line 1) (receive_case a (ToRegister 0) within (send_case b x delay no_case))

two_ends : map (first_where two_cases) (twice 1 1 delay ∷ twice 1 2 (twice 1 2 delay) ∷ twice 1 2 (Prialt (line 5) (send_case 3 x delay (send_case 3 x delay no_case))) ∷ [])
    ≡ Some (line 1, Some 1) ∷ None ∷ Some (line 5, Some 3) ∷ []
two_ends = refl

with_default : two_cases (PrialtElse (line 1) (send_case 4 x delay (send_case 3 x delay (send_case 4 x delay (send_case 3 x delay no_case)))) delay) ≡ Some (Some 3)
with_default = refl

-- accesses of one action or of one condition: in both operands, in an index, in value and target, and in several cases; not of
-- two actions, nor of a condition and what it chooses
abbrev assigned : Expression → Statement
assigned e = Assign (line 1) (ToRegister 0) e

twice_accessed : map accessed_twice (assigned (Binary Add (m 1) (m 1)) ∷ assigned (Word 1 (m 1)) ∷ Assign (line 1) (ToWord 1 x) (m 1)
    ∷ Assign (line 1) (ToElement 3 (m 1)) (m 1) ∷ Send (line 1) 5 (Binary Add (m 1) (m 1)) ∷ Receive (line 1) 5 (ToWord 1 (m 1))
    ∷ If (line 1) (Binary Add (m 1) (m 1)) delay delay ∷ While (line 1) (Word 1 (m 1)) delay ∷ DoWhile (line 1) delay (Word 1 (m 1)) ∷ Switch (line 1) (Word 1 (m 1)) no_arm
    ∷ Prialt (line 1) (send_case 5 (m 1) delay (receive_case 6 (ToWord 1 x) delay no_case)) ∷ []) ≡ map (λ k. Some (Some k)) (1 ∷ 1 ∷ 1 ∷ 1 ∷ 1 ∷ 1 ∷ 1 ∷ 1 ∷ 1 ∷ 1 ∷ 1 ∷ [])
twice_accessed = refl

once_accessed : map (first_where accessed_twice) (assigned (Binary Add (m 1) (m 2)) ∷ If (line 1) (m 1) (assigned (m 1)) (assigned (m 1))
    ∷ Par (line 1) (assigned (m 1) ⨾ assigned (m 1) ⨾ stop) ∷ Prialt (line 1) (send_case 5 (m 1) (assigned (m 1)) no_case)
    ∷ assigned (Binary Add (Element 1 x) (Element 1 x)) ∷ []) ≡ None ∷ None ∷ None ∷ None ∷ None ∷ []
once_accessed = refl

-- a word in a case's value or target, not in its arm and not in a plain send
in_cases : map in_a_case (Prialt (line 1) (send_case 5 x delay (send_case 6 (m 2) delay no_case)) ∷ PrialtElse (line 1) (receive_case 5 (ToWord 1 x) delay no_case) delay
    ∷ Prialt (line 1) (receive_case 5 (ToElement 3 (m 2)) delay (send_case 6 (m 1) delay no_case)) ∷ Prialt (line 1) (send_case 5 x (assigned (m 1)) no_case) ∷ Send (line 1) 5 (m 1) ∷ [])
    ≡ Some (Some 2) ∷ Some (Some 1) ∷ Some (Some 1) ∷ None ∷ None ∷ []
in_cases = refl

in_outputs : map (in_an_output 9) (kind.Output 4 false [] (e.Binary Add (e.Reg 0) (e.Word 2 (e.Reg 0))) ∷ kind.Output 4 false [] (e.Element 2 (e.Reg 0)) ∷ [])
    ≡ Some (Some 2) ∷ None ∷ []
unfolding expression eb.hidden-the_row-Expr-0 denote.Hole.Carrier.hidden
in_outputs = refl

-- a value that stands twice, in one arm or in two
label_twice : map (first_where repeats_label) (Switch (line 1) x (arm (number 1 ∷ number 2 ∷ []) false delay (arm (number 2 ∷ []) true delay no_arm))
    ∷ Switch (line 1) x (arm (number 1 ∷ number 1 ∷ []) false delay no_arm)
    ∷ Switch (line 1) x (arm (number 1 ∷ []) false (Switch (line 2) x (arm (number 1 ∷ []) false delay no_arm)) (arm (number 2 ∷ []) false delay no_arm)) ∷ [])
    ≡ Some (line 1, None) ∷ Some (line 1, None) ∷ None ∷ []
label_twice = refl

-- ---- of several broken rules the first in order, objects before statements

abbrev object : ℕ → ℕ → Kind → Object
object name n kind = record { name = name ∷ []; place = line n; kind = kind }

-- registers x, a RAM m, channels c and d, and an output o that reads m where it is asked for
abbrev core : Kind → List Stmt → Core
core output main = record {
  objects = object 120 11 (kind.Reg 4 false (number 0)) ∷ object 109 12 (kind.Ram 4 false 4 []) ∷ object 99 13 (kind.Chan 4 false 0) ∷ object 100 14 (kind.Chan 4 false 0)
      ∷ object 111 15 output ∷ [];
  main = s.Par (line 1) main;
  clock = 99 ∷ [];
}

abbrev plain : Kind
plain = kind.Output 4 false [] (e.Reg 0)

abbrev reading : Kind
reading = kind.Output 4 false [] (e.Word 1 (e.Reg 0))

nothing_broken : first_broken (core plain (s.Delay (line 2) ∷ [])) ≡ None
unfolding first_broken statement statements_in target expression eb.hidden-the_row-Expr-0 sb.hidden-the_row-Stmt-2 denote.Hole.Carrier.hidden
nothing_broken = refl

by_the_output : first_broken (core reading (s.Delay (line 2) ∷ [])) ≡ Some (record { rule = S21; place = line 15; detail = Name (109 ∷ []) })
unfolding first_broken statement statements_in target expression eb.hidden-the_row-Expr-0 sb.hidden-the_row-Stmt-2 denote.Hole.Carrier.hidden
by_the_output = refl

-- a loop without a clock comes before the output, whose declaration comes before it
loop_before_output : first_broken (core reading (s.While (line 2) (e.Reg 0) s.Skip ∷ [])) ≡ Some (record { rule = S16; place = line 2; detail = Nothing })
unfolding first_broken statement statements_in target expression eb.hidden-the_row-Expr-0 sb.hidden-the_row-Stmt-2 sb.hidden-the_row-Stmt-1 denote.Hole.Carrier.hidden
loop_before_output = refl

-- two accesses in one action come before the output, too
access_before_output : first_broken (core reading (s.Assign (line 2) (t.Word 1 (e.Reg 0)) (e.Word 1 (e.Reg 0)) ∷ [])) ≡ Some (record { rule = S20; place = line 2; detail = Name (109 ∷ []) })
unfolding first_broken statement statements_in target expression eb.hidden-the_row-Expr-0 sb.hidden-the_row-Stmt-2 denote.Hole.Carrier.hidden
access_before_output = refl

abbrev takes : ℕ → Case
takes chan = c.Recv chan (t.Reg 0) (s.Delay (line 9))

abbrev offers : ℕ → Expr → Case
offers chan value = c.Send chan value (s.Delay (line 9))

-- a channel of send and receive cases comes before two cases of one `prialt`, and these before the accesses and the labels
both_before_two : first_broken (core plain (s.Prialt (line 2) (takes 3 ∷ takes 3 ∷ []) None ∷ s.Prialt (line 3) (offers 2 (e.Reg 0) ∷ takes 2 ∷ []) None ∷ []))
    ≡ Some (record { rule = S18; place = line 13; detail = Name (99 ∷ []) })
unfolding first_broken statement statements_in cases_in target expression eb.hidden-the_row-Expr-0 sb.hidden-the_row-Stmt-2 sb.hidden-the_row-Case-0 denote.Hole.Carrier.hidden
both_before_two = refl
