-- Worked rows of the dependencies within a clock, computed.
use Rattle.std.proofs.Common.{◌≡◌, ◌≢◌, ℕ, zero, suc, List, [], ◌∷◌, map, true, false, refl, ap, arith, lit<}
use Rattle.std.specs.Prelude.{AllPairs}
use Rattle.hc_num.specs.Number.{Number}
use Rattle.hc_tree.specs.declared.place.Place.{Place}
use Rattle.hc_tree.specs.declared.refusal.Node.{Node}
use Rattle.hc_tree.specs.declared.refusal.Node.TheVariants.{Value, Sends, Receives}
use Rattle.hc_core.specs.Program.{Expression, Constant, Register, Word, Signal, Binary, ToRegister, ToWord, ToSignal, Statement, Skip, Assign, Delay, Send, Receive, Prialt, PrialtElse, Seq, Par, If, While, DoWhile, Switch, stop, ◌⨾◌, no_case, send_case, receive_case, no_arm, arm}
use Rattle.hc_core.specs.Read.{expression, target, statement, statements_in}
use Rattle.hc_core.specs.Instant.{nodes_from, deps, passes, finishes}
use Rattle.hc_core.specs.Depends.{Need, needs, needs_of, Depends, Cyclic, directly, through, IsCycle, place_of}
use Rattle.hc_core.specs.declared.expr.BinOp.TheVariants.{Add}
use Rattle.hc_core.specs.declared.expr.Expr.TheVariants as e
use Rattle.hc_core.specs.declared.stmt.Stmt.TheVariants as sv
use Rattle.hc_core.specs.declared.stmt.Case.TheBlock as sb
use Rattle.hc_core.specs.declared.stmt.Target.TheVariants as tv
use Rattle.hc_core.specs.declared.object.Kind.{Kind}
use Rattle.hc_core.specs.declared.object.Kind.TheVariants as kind
use Rattle.hc_core.specs.declared.object.Object.{Object}
use Rattle.hc_core.specs.declared.object.Core.{Core}

abbrev here : Place
here = record { line = 1; column = 1 }

abbrev number : ℕ → ℕ → Number
number width bits = record { width = width; signed = false; bits = bits }

abbrev one : Expression
one = Constant (number 1 1)

abbrev need : Node → List Node → Need
need node on = record { node = node; on = on }

-- signals s and t, a RAM m, a channel c and a register i
abbrev s : Expression
s = Signal 0

abbrev t : Expression
t = Signal 1

abbrev m : Expression → Expression
m index = Word 2 index

abbrev i : Expression
i = Register 4

-- a channel has two nodes, a register none
nodes : nodes_from 0 (kind.Signal 1 false (number 1 0) ∷ kind.Signal 1 false (number 1 0) ∷ kind.Ram 1 false 2 [] ∷ kind.Chan 1 false 0
    ∷ kind.Reg 1 false (number 1 0) ∷ []) ≡ Value 0 ∷ Value 1 ∷ Value 2 ∷ Sends 3 ∷ Receives 3 ∷ []
nodes = refl

-- all that is read, also in an index
reads : deps (Binary Add (m s) t) ≡ Value 2 ∷ Value 0 ∷ Value 1 ∷ []
reads = refl

-- `s = t; t = s;`
each_other : needs [] (Seq here (Assign here (ToSignal 0) t ⨾ Assign here (ToSignal 1) s ⨾ stop)) ≡ need (Value 0) (Value 1 ∷ []) ∷ need (Value 1) (Value 0 ∷ []) ∷ []
each_other = refl

-- `if (s) delay; t = 1;`: the second part starts by s
behind_if : needs [] (Seq here (If here s (Delay here) Skip ⨾ Assign here (ToSignal 1) one ⨾ stop)) ≡ need (Value 1) (Value 0 ∷ []) ∷ []
behind_if = refl

-- `delay; t = 1;`: the second part starts by no value of the clock
behind_delay : needs (Value 0 ∷ []) (Seq here (Delay here ⨾ Assign here (ToSignal 1) one ⨾ stop)) ≡ need (Value 1) [] ∷ []
behind_delay = refl

-- `while (m[i]) i = m[s];`: the RAM is read in the condition, and in the body that the condition starts
in_loop : needs [] (While here (m i) (Assign here (ToRegister 4) (m s))) ≡ need (Value 2) [] ∷ need (Value 2) (Value 2 ∷ Value 0 ∷ []) ∷ []
in_loop = refl

-- `while (s) delay;` finishes and is passed by s, and `while (1) delay;` does neither
loop_ends : map (λ c. finishes (While here c (Delay here))) (s ∷ one ∷ []) ≡ (Value 0 ∷ []) ∷ [] ∷ []
loop_ends = refl

loop_passes : map (λ c. passes (While here c (Delay here))) (s ∷ one ∷ []) ≡ (Value 0 ∷ []) ∷ [] ∷ []
loop_passes = refl

-- `prialt { case c ! s: t = 1; default: t = 1; }`: the arm of the case starts by no value of the clock, the default by the
-- plain receives, and these decide its pass too where it may take no clock
by_partners : needs (Value 2 ∷ []) (PrialtElse here (send_case 3 s (Assign here (ToSignal 1) one) no_case) (Assign here (ToSignal 1) one))
    ≡ need (Value 1) [] ∷ need (Value 1) (Value 2 ∷ Receives 3 ∷ []) ∷ []
by_partners = refl

pass_by_partners : passes (PrialtElse here (receive_case 3 (ToRegister 4) (Delay here) no_case) Skip) ≡ Sends 3 ∷ []
pass_by_partners = refl

-- sends and receives stand by their starts, and `m[s] = s` needs what its index reads
others : needs (Value 1 ∷ []) (Par here (Send here 3 s ⨾ Receive here 3 (ToRegister 4) ⨾ Assign here (ToWord 2 s) t ⨾ stop))
    ≡ need (Sends 3) (Value 1 ∷ []) ∷ need (Receives 3) (Value 1 ∷ []) ∷ need (Value 2) (Value 1 ∷ Value 0 ∷ []) ∷ []
others = refl

-- `while (s) delay;` and `while (t) delay;`, which a start passes by what their conditions read, and which finish by it
abbrev by_s : Statement
by_s = While here s (Delay here)

abbrev by_t : Statement
by_t = While here t (Delay here)

-- a branch of `par` passes by what the branches pass by, a sequence by what its parts pass by, each where all may
pass_parts : map passes (Seq here (by_s ⨾ by_t ⨾ stop) ∷ Seq here (by_s ⨾ Delay here ⨾ stop) ∷ Par here (by_s ⨾ by_t ⨾ stop) ∷ Par here (by_s ⨾ Delay here ⨾ stop) ∷ [])
    ≡ (Value 0 ∷ Value 1 ∷ []) ∷ [] ∷ (Value 0 ∷ Value 1 ∷ []) ∷ [] ∷ []
pass_parts = refl

-- an `if` and a `switch` pass by what they are chosen by and what is chosen, a `do` never where its body takes a clock
pass_choices : map passes (If here s by_t (Delay here) ∷ If here s (Delay here) (Delay here) ∷ Switch here s (arm [] false by_t no_arm)
    ∷ Switch here s (arm [] true (Delay here) no_arm) ∷ DoWhile here (Delay here) s ∷ Prialt here (send_case 3 s Skip no_case) ∷ [])
    ≡ (Value 0 ∷ Value 1 ∷ []) ∷ [] ∷ (Value 0 ∷ Value 1 ∷ []) ∷ [] ∷ [] ∷ [] ∷ []
pass_choices = refl

-- a sequence finishes by its last part, and where that may be passed, by the parts before it too
finish_sequence : map finishes (Seq here (by_s ⨾ Delay here ⨾ stop) ∷ Seq here (by_s ⨾ by_t ⨾ stop) ∷ Seq here (by_s ⨾ Delay here ⨾ by_t ⨾ stop)
    ∷ Seq here (by_s ⨾ by_t ⨾ Skip ⨾ stop) ∷ [])
    ≡ [] ∷ (Value 1 ∷ Value 0 ∷ Value 1 ∷ []) ∷ (Value 1 ∷ Value 1 ∷ []) ∷ (Value 1 ∷ Value 0 ∷ Value 1 ∷ []) ∷ []
finish_sequence = refl

-- each side, branch and arm of others; a `do` by its condition too; a case by its arm, started in the clock before, and a default
finish_others : map finishes (Par here (by_s ⨾ by_t ⨾ stop) ∷ If here s by_t (Delay here) ∷ DoWhile here by_s t ∷ Switch here s (arm [] false by_t no_arm)
    ∷ Prialt here (receive_case 3 (ToRegister 4) by_t no_case) ∷ PrialtElse here (send_case 3 s (Delay here) no_case) by_t ∷ [])
    ≡ (Value 0 ∷ Value 1 ∷ []) ∷ (Value 1 ∷ []) ∷ (Value 0 ∷ Value 1 ∷ []) ∷ (Value 1 ∷ []) ∷ (Value 1 ∷ Value 1 ∷ []) ∷ (Value 1 ∷ []) ∷ []
finish_others = refl

-- `s; t; t = 1;` of loops: the third part starts by both, from the start of the sequence on
third_part : needs (Value 2 ∷ []) (Seq here (by_s ⨾ by_t ⨾ Assign here (ToSignal 5) one ⨾ stop)) ≡ need (Value 5) (Value 1 ∷ Value 0 ∷ Value 1 ∷ Value 2 ∷ Value 0 ∷ Value 1 ∷ []) ∷ []
third_part = refl

-- a loop's condition and body start again in the clock in which the body finishes; that of a `do` is first read there
in_do : needs (Value 5 ∷ []) (DoWhile here (Seq here (Assign here (ToSignal 0) one ⨾ by_t ⨾ stop)) (m i)) ≡ need (Value 2) (Value 1 ∷ Value 1 ∷ []) ∷ need (Value 0) (Value 5 ∷ Value 1 ∷ Value 1 ∷ Value 2 ∷ []) ∷ []
in_do = refl

-- an arm is started by the start and the selector, in which a word is read
in_switch : needs (Value 5 ∷ []) (Switch here (m s) (arm [] false (Assign here (ToSignal 1) one) no_arm)) ≡ need (Value 2) (Value 5 ∷ Value 0 ∷ []) ∷ need (Value 1) (Value 5 ∷ Value 2 ∷ Value 0 ∷ []) ∷ []
in_switch = refl

-- words in cases are accessed from the start on, and an arm starts by no value of the clock
in_cases : needs (Value 5 ∷ []) (Prialt here (send_case 3 (m i) (Assign here (ToSignal 1) s) (receive_case 3 (ToWord 2 s) (Delay here) no_case)))
    ≡ need (Value 2) (Value 5 ∷ []) ∷ need (Value 2) (Value 5 ∷ Value 0 ∷ []) ∷ need (Value 1) (Value 0 ∷ []) ∷ []
in_cases = refl

-- The signals of `s = t; t = s;` are a cycle.
abbrev object : Kind → Object
object kind = record { name = 120 ∷ []; place = here; kind = kind }

abbrev crossed : Core
crossed = record {
  objects = object (kind.Signal 1 false (number 1 0)) ∷ object (kind.Signal 1 false (number 1 0)) ∷ [];
  main = sv.Seq here (sv.Assign here (tv.Signal 0) (e.Signal 1) ∷ sv.Assign here (tv.Signal 1) (e.Signal 0) ∷ []);
  clock = 99 ∷ [];
}

needs_crossed : needs_of crossed ≡ need (Value 0) (Value 1 ∷ []) ∷ need (Value 1) (Value 0 ∷ []) ∷ []
unfolding statement statements_in target expression sb.hidden-the_row-Stmt-2 denote.Hole.Carrier.hidden
needs_crossed = refl

s_by_t : Depends crossed (Value 0) (Value 1)
unfolding statement statements_in target expression sb.hidden-the_row-Stmt-2 denote.Hole.Carrier.hidden
s_by_t = record { need = need (Value 0) (Value 1 ∷ []); uses = (0, lit< tt, refl); node_is = refl; on_is = (0, lit< tt, refl) }

t_by_s : Depends crossed (Value 1) (Value 0)
unfolding statement statements_in target expression sb.hidden-the_row-Stmt-2 denote.Hole.Carrier.hidden
t_by_s = record { need = need (Value 1) (Value 0 ∷ []); uses = (1, lit< tt, refl); node_is = refl; on_is = (0, lit< tt, refl) }

is_cyclic : Cyclic crossed
is_cyclic = (Value 0, through (Value 0) (Value 1) (Value 0) s_by_t (directly (Value 1) (Value 0) t_by_s))

-- two different nodes differ in a list of two
two_differ : (a b : Node) → a ≢ b → AllPairs ◌≢◌ (a ∷ b ∷ [])
two_differ a b h zero zero d p q = absurd (omega arith)
two_differ a b h zero (suc zero) d p q = h
two_differ a b h zero (suc (suc j)) d p q = absurd (omega arith)
two_differ a b h (suc i) j d p q = absurd (omega arith)

is_cycle : IsCycle crossed (Value 0 ∷ Value 1 ∷ [])
is_cycle = record {
  leads = (s_by_t, t_by_s);
  distinct = two_differ (Value 0) (Value 1) (λ e. let n : place_of (Value 0) ≡ place_of (Value 1) = ap place_of e in omega (arith, n));
  least = λ k d h. omega arith;
}
