-- Worked rows of runs: what objects hold at each edge of clean clocks, and what outputs show.
use Rattle.std.proofs.Common.{◌≡◌, ℕ, zero, suc, List, [], ◌∷◌, true, false, Some, None, refl}
use Rattle.hc_core.specs.Read.{expression, target, statement, statements_in, cases_in, arms_in}
use Rattle.hc_core.specs.declared.expr.BinOp.TheVariants.{Add, Lt, Ne, Eq}
use Rattle.hc_core.specs.declared.expr.Expr.TheVariants as e
use Rattle.hc_core.specs.declared.expr.Expr.TheBlock as eb
use Rattle.hc_core.specs.declared.stmt.Stmt.{Stmt}
use Rattle.hc_core.specs.declared.stmt.Stmt.TheVariants as s
use Rattle.hc_core.specs.declared.stmt.Case.TheBlock as sb
use Rattle.hc_core.specs.declared.stmt.Target.TheVariants as t
use Rattle.hc_core.specs.declared.object.Kind.TheVariants as kind
use Rattle.hc_meaning.specs.Residual.{residual, Skip, Sends, Receives, no_case, case_of}
use Rattle.hc_core.specs.Program.{Constant, ToRegister}
use Rattle.hc_meaning.specs.Control.{chooses_from}
use Rattle.hc_meaning.specs.Clock.{taken}
use Rattle.hc_meaning.specs.Run.{world_of}
use Rattle.hc_meaning.proofs.Programs.{here, number, core, no_inputs, reg, array, ram, rom, sig, chan, const, sets, takes, counts, delay, par, seq, sends, receives, waits_for, receive_case, send_case, arm_of, tests_word}
use Rattle.hc_meaning.proofs.Ran.{Holds, holds, Shows, shows}

-- the input 1 in each clock of an even number, and in clock 1 alone
abbrev every_other : ℕ → List ℕ
every_other zero = 1 ∷ []
every_other (suc zero) = 0 ∷ []
every_other (suc (suc t)) = every_other t

abbrev second_alone : ℕ → List ℕ
second_alone (suc zero) = 1 ∷ []
second_alone _ = 0 ∷ []

abbrev chooses : Stmt
chooses = s.Switch here (e.Reg 0) (arm_of (1 ∷ 2 ∷ []) false (sets 1 5 ∷ []) ∷ arm_of (3 ∷ []) false (sets 1 6 ∷ []) ∷ arm_of [] true (sets 1 9 ∷ []) ∷ [])

-- `x = 5; delay; x = x + 1;`
row_sequence : Holds (core (reg 4 0 ∷ []) (sets 0 5 ∷ delay ∷ counts 0 ∷ [])) no_inputs 4 (0 ∷ [])
    (((0 ∷ []) ∷ (5 ∷ []) ∷ (5 ∷ []) ∷ (6 ∷ []) ∷ (6 ∷ []) ∷ []) ∷ [])
unfolding residual statement statements_in cases_in arms_in target expression eb.hidden-the_row-Expr-0 sb.hidden-the_row-Stmt-1 sb.hidden-the_row-Stmt-2 sb.hidden-the_row-Arm-3 sb.hidden-the_row-Case-0 denote.Hole.Carrier.hidden
row_sequence = holds _ _ _ _ _ refl refl

-- `par { a = b; b = a; }` exchanges a and b
row_exchange : Holds (core (reg 4 1 ∷ reg 4 2 ∷ []) (par (takes 0 (e.Reg 1) ∷ takes 1 (e.Reg 0) ∷ []) ∷ [])) no_inputs 2 (0 ∷ 1 ∷ [])
    (((1 ∷ []) ∷ (2 ∷ []) ∷ (2 ∷ []) ∷ []) ∷ ((2 ∷ []) ∷ (1 ∷ []) ∷ (1 ∷ []) ∷ []) ∷ [])
unfolding residual statement statements_in cases_in arms_in target expression eb.hidden-the_row-Expr-0 sb.hidden-the_row-Stmt-1 sb.hidden-the_row-Stmt-2 sb.hidden-the_row-Arm-3 sb.hidden-the_row-Case-0 denote.Hole.Carrier.hidden
row_exchange = holds _ _ _ _ _ refl refl

-- `par { { delay; delay; } x = 1; } y = 1;`: the longest branch ends the `par`
row_par : Holds (core (reg 4 0 ∷ reg 4 0 ∷ []) (par (seq (delay ∷ delay ∷ []) ∷ sets 0 1 ∷ []) ∷ sets 1 1 ∷ [])) no_inputs 4 (0 ∷ 1 ∷ [])
    (((0 ∷ []) ∷ (1 ∷ []) ∷ (1 ∷ []) ∷ (1 ∷ []) ∷ (1 ∷ []) ∷ []) ∷ ((0 ∷ []) ∷ (0 ∷ []) ∷ (0 ∷ []) ∷ (1 ∷ []) ∷ (1 ∷ []) ∷ []) ∷ [])
unfolding residual statement statements_in cases_in arms_in target expression eb.hidden-the_row-Expr-0 sb.hidden-the_row-Stmt-1 sb.hidden-the_row-Stmt-2 sb.hidden-the_row-Arm-3 sb.hidden-the_row-Case-0 denote.Hole.Carrier.hidden
row_par = holds _ _ _ _ _ refl refl

-- `par { } x = 1;`: a `par` without branches takes no clock
row_empty_par : Holds (core (reg 4 0 ∷ []) (par [] ∷ sets 0 1 ∷ [])) no_inputs 1 (0 ∷ [])
    (((0 ∷ []) ∷ (1 ∷ []) ∷ []) ∷ [])
unfolding residual statement statements_in cases_in arms_in target expression eb.hidden-the_row-Expr-0 sb.hidden-the_row-Stmt-1 sb.hidden-the_row-Stmt-2 sb.hidden-the_row-Arm-3 sb.hidden-the_row-Case-0 denote.Hole.Carrier.hidden
row_empty_par = holds _ _ _ _ _ refl refl

-- `while (1) par { if (i.x) a = a + 1; b = b + 1; }` with the inputs 1, 0, 1
row_if : Holds (core (kind.Input 1 false [] ∷ reg 4 0 ∷ reg 4 0 ∷ []) (s.While here (const 1 1) (par ((s.If here (e.Input 0) (counts 1) s.Skip) ∷ counts 2 ∷ [])) ∷ [])) every_other 3 (1 ∷ 2 ∷ [])
    (((0 ∷ []) ∷ (1 ∷ []) ∷ (1 ∷ []) ∷ (2 ∷ []) ∷ []) ∷ ((0 ∷ []) ∷ (1 ∷ []) ∷ (2 ∷ []) ∷ (3 ∷ []) ∷ []) ∷ [])
unfolding residual statement statements_in cases_in arms_in target expression eb.hidden-the_row-Expr-0 sb.hidden-the_row-Stmt-1 sb.hidden-the_row-Stmt-2 sb.hidden-the_row-Arm-3 sb.hidden-the_row-Case-0 denote.Hole.Carrier.hidden
row_if = holds _ _ _ _ _ refl refl

-- an `if` that doesn't hold takes its other branch
row_else : Holds (core (reg 4 0 ∷ reg 4 0 ∷ []) (s.If here (e.Binary Eq (e.Reg 0) (const 4 1)) (sets 1 5) (sets 1 7) ∷ [])) no_inputs 1 (1 ∷ [])
    (((0 ∷ []) ∷ (7 ∷ []) ∷ []) ∷ [])
unfolding residual statement statements_in cases_in arms_in target expression eb.hidden-the_row-Expr-0 sb.hidden-the_row-Stmt-1 sb.hidden-the_row-Stmt-2 sb.hidden-the_row-Arm-3 sb.hidden-the_row-Case-0 denote.Hole.Carrier.hidden
row_else = holds _ _ _ _ _ refl refl

-- `while (1) { if (i.x) a = a + 1; b = b + 1; }` with the inputs 0, 1, 0, 0: an `if` that is false takes no clock
row_loop : Holds (core (kind.Input 1 false [] ∷ reg 4 0 ∷ reg 4 0 ∷ []) (s.While here (const 1 1) (seq ((s.If here (e.Input 0) (counts 1) s.Skip) ∷ counts 2 ∷ [])) ∷ [])) second_alone 4 (1 ∷ 2 ∷ [])
    (((0 ∷ []) ∷ (0 ∷ []) ∷ (1 ∷ []) ∷ (1 ∷ []) ∷ (1 ∷ []) ∷ []) ∷ ((0 ∷ []) ∷ (1 ∷ []) ∷ (1 ∷ []) ∷ (2 ∷ []) ∷ (3 ∷ []) ∷ []) ∷ [])
unfolding residual statement statements_in cases_in arms_in target expression eb.hidden-the_row-Expr-0 sb.hidden-the_row-Stmt-1 sb.hidden-the_row-Stmt-2 sb.hidden-the_row-Arm-3 sb.hidden-the_row-Case-0 denote.Hole.Carrier.hidden
row_loop = holds _ _ _ _ _ refl refl

-- `for (i = 0; i < 2; i++) a = a + 1; b = 1;`
row_for : Holds (core (reg 2 0 ∷ reg 4 0 ∷ reg 4 0 ∷ []) (s.Assign here (t.Reg 0) (const 2 0) ∷ s.While here (e.Binary Lt (e.Reg 0) (const 2 2)) (seq (counts 1 ∷ s.Assign here (t.Reg 0) (e.Binary Add (e.Reg 0) (const 2 1)) ∷ [])) ∷ sets 2 1 ∷ [])) no_inputs 6 (1 ∷ 2 ∷ [])
    (((0 ∷ []) ∷ (0 ∷ []) ∷ (1 ∷ []) ∷ (1 ∷ []) ∷ (2 ∷ []) ∷ (2 ∷ []) ∷ (2 ∷ []) ∷ []) ∷ ((0 ∷ []) ∷ (0 ∷ []) ∷ (0 ∷ []) ∷ (0 ∷ []) ∷ (0 ∷ []) ∷ (0 ∷ []) ∷ (1 ∷ []) ∷ []) ∷ [])
unfolding residual statement statements_in cases_in arms_in target expression eb.hidden-the_row-Expr-0 sb.hidden-the_row-Stmt-1 sb.hidden-the_row-Stmt-2 sb.hidden-the_row-Arm-3 sb.hidden-the_row-Case-0 denote.Hole.Carrier.hidden
row_for = holds _ _ _ _ _ refl refl

-- `par { a[0] = 0; a[1] = 1; a[2] = 2; a[3] = 3; }`: elements apart are written in one clock
row_array : Holds (core (array 4 [] ∷ []) (par (s.Assign here (t.Element 0 (const 2 0)) (const 4 0) ∷ s.Assign here (t.Element 0 (const 2 1)) (const 4 1) ∷ s.Assign here (t.Element 0 (const 2 2)) (const 4 2) ∷ s.Assign here (t.Element 0 (const 2 3)) (const 4 3) ∷ []) ∷ [])) no_inputs 1 (0 ∷ [])
    (((0 ∷ 0 ∷ 0 ∷ 0 ∷ []) ∷ (0 ∷ 1 ∷ 2 ∷ 3 ∷ []) ∷ []) ∷ [])
unfolding residual statement statements_in cases_in arms_in target expression eb.hidden-the_row-Expr-0 sb.hidden-the_row-Stmt-1 sb.hidden-the_row-Stmt-2 sb.hidden-the_row-Arm-3 sb.hidden-the_row-Case-0 denote.Hole.Carrier.hidden
row_array = holds _ _ _ _ _ refl refl

-- `x = a[i]; a[i] = 7;` with i outside: 0 is read, and nothing is written
row_outside : Holds (core (array 3 (1 ∷ 2 ∷ 3 ∷ []) ∷ reg 2 3 ∷ reg 4 9 ∷ []) (takes 2 (e.Element 0 (e.Reg 1)) ∷ s.Assign here (t.Element 0 (e.Reg 1)) (const 4 7) ∷ [])) no_inputs 2 (0 ∷ 2 ∷ [])
    (((1 ∷ 2 ∷ 3 ∷ []) ∷ (1 ∷ 2 ∷ 3 ∷ []) ∷ (1 ∷ 2 ∷ 3 ∷ []) ∷ []) ∷ ((9 ∷ []) ∷ (0 ∷ []) ∷ (0 ∷ []) ∷ []) ∷ [])
unfolding residual statement statements_in cases_in arms_in target expression eb.hidden-the_row-Expr-0 sb.hidden-the_row-Stmt-1 sb.hidden-the_row-Stmt-2 sb.hidden-the_row-Arm-3 sb.hidden-the_row-Case-0 denote.Hole.Carrier.hidden
row_outside = holds _ _ _ _ _ refl refl

-- `switch (x) { case 1: case 2: y = 5; break; case 3: y = 6; break; default: y = 9; }` with x = 1
row_switch_first : Holds (core (reg 4 1 ∷ reg 4 0 ∷ []) (chooses ∷ [])) no_inputs 1 (1 ∷ [])
    (((0 ∷ []) ∷ (5 ∷ []) ∷ []) ∷ [])
unfolding residual statement statements_in cases_in arms_in target expression eb.hidden-the_row-Expr-0 sb.hidden-the_row-Stmt-1 sb.hidden-the_row-Stmt-2 sb.hidden-the_row-Arm-3 sb.hidden-the_row-Case-0 denote.Hole.Carrier.hidden
row_switch_first = holds _ _ _ _ _ refl refl

-- `switch (x) { case 1: case 2: y = 5; break; case 3: y = 6; break; default: y = 9; }` with x = 2
row_switch_second : Holds (core (reg 4 2 ∷ reg 4 0 ∷ []) (chooses ∷ [])) no_inputs 1 (1 ∷ [])
    (((0 ∷ []) ∷ (5 ∷ []) ∷ []) ∷ [])
unfolding residual statement statements_in cases_in arms_in target expression eb.hidden-the_row-Expr-0 sb.hidden-the_row-Stmt-1 sb.hidden-the_row-Stmt-2 sb.hidden-the_row-Arm-3 sb.hidden-the_row-Case-0 denote.Hole.Carrier.hidden
row_switch_second = holds _ _ _ _ _ refl refl

-- `switch (x) { case 1: case 2: y = 5; break; case 3: y = 6; break; default: y = 9; }` with x = 3
row_switch_third : Holds (core (reg 4 3 ∷ reg 4 0 ∷ []) (chooses ∷ [])) no_inputs 1 (1 ∷ [])
    (((0 ∷ []) ∷ (6 ∷ []) ∷ []) ∷ [])
unfolding residual statement statements_in cases_in arms_in target expression eb.hidden-the_row-Expr-0 sb.hidden-the_row-Stmt-1 sb.hidden-the_row-Stmt-2 sb.hidden-the_row-Arm-3 sb.hidden-the_row-Case-0 denote.Hole.Carrier.hidden
row_switch_third = holds _ _ _ _ _ refl refl

-- `switch (x) { case 1: case 2: y = 5; break; case 3: y = 6; break; default: y = 9; }` with x = 0
row_switch_default : Holds (core (reg 4 0 ∷ reg 4 0 ∷ []) (chooses ∷ [])) no_inputs 1 (1 ∷ [])
    (((0 ∷ []) ∷ (9 ∷ []) ∷ []) ∷ [])
unfolding residual statement statements_in cases_in arms_in target expression eb.hidden-the_row-Expr-0 sb.hidden-the_row-Stmt-1 sb.hidden-the_row-Stmt-2 sb.hidden-the_row-Arm-3 sb.hidden-the_row-Case-0 denote.Hole.Carrier.hidden
row_switch_default = holds _ _ _ _ _ refl refl

-- a `default` that stands first is for what no label has
row_default_first : Holds (core (reg 4 1 ∷ reg 4 0 ∷ []) (s.Switch here (e.Reg 0) (arm_of [] true (sets 1 9 ∷ []) ∷ arm_of (1 ∷ []) false (sets 1 5 ∷ []) ∷ []) ∷ [])) no_inputs 1 (1 ∷ [])
    (((0 ∷ []) ∷ (5 ∷ []) ∷ []) ∷ [])
unfolding residual statement statements_in cases_in arms_in target expression eb.hidden-the_row-Expr-0 sb.hidden-the_row-Stmt-1 sb.hidden-the_row-Stmt-2 sb.hidden-the_row-Arm-3 sb.hidden-the_row-Case-0 denote.Hole.Carrier.hidden
row_default_first = holds _ _ _ _ _ refl refl

-- `switch (x) { case 1: delay; } y = 1;` with x = 0: without a default it is passed
row_no_default : Holds (core (reg 4 0 ∷ reg 4 0 ∷ []) (s.Switch here (e.Reg 0) (arm_of (1 ∷ []) false (delay ∷ []) ∷ []) ∷ sets 1 1 ∷ [])) no_inputs 1 (1 ∷ [])
    (((0 ∷ []) ∷ (1 ∷ []) ∷ []) ∷ [])
unfolding residual statement statements_in cases_in arms_in target expression eb.hidden-the_row-Expr-0 sb.hidden-the_row-Stmt-1 sb.hidden-the_row-Stmt-2 sb.hidden-the_row-Arm-3 sb.hidden-the_row-Case-0 denote.Hole.Carrier.hidden
row_no_default = holds _ _ _ _ _ refl refl

-- `do { x = x + 1; } while (x != 3);`
row_do : Holds (core (reg 4 0 ∷ []) (s.DoWhile here (counts 0) (e.Binary Ne (e.Reg 0) (const 4 3)) ∷ [])) no_inputs 4 (0 ∷ [])
    (((0 ∷ []) ∷ (1 ∷ []) ∷ (2 ∷ []) ∷ (3 ∷ []) ∷ (3 ∷ []) ∷ []) ∷ [])
unfolding residual statement statements_in cases_in arms_in target expression eb.hidden-the_row-Expr-0 sb.hidden-the_row-Stmt-1 sb.hidden-the_row-Stmt-2 sb.hidden-the_row-Arm-3 sb.hidden-the_row-Case-0 denote.Hole.Carrier.hidden
row_do = holds _ _ _ _ _ refl refl

-- `do { x = x + 1; } while (x == 1); y = 1;`: the body comes before the first test, and again where the test holds
row_do_first : Holds (core (reg 4 0 ∷ reg 4 0 ∷ []) (s.DoWhile here (counts 0) (e.Binary Eq (e.Reg 0) (const 4 1)) ∷ sets 1 1 ∷ [])) no_inputs 3 (0 ∷ 1 ∷ [])
    (((0 ∷ []) ∷ (1 ∷ []) ∷ (2 ∷ []) ∷ (2 ∷ []) ∷ []) ∷ ((0 ∷ []) ∷ (0 ∷ []) ∷ (0 ∷ []) ∷ (1 ∷ []) ∷ []) ∷ [])
unfolding residual statement statements_in cases_in arms_in target expression eb.hidden-the_row-Expr-0 sb.hidden-the_row-Stmt-1 sb.hidden-the_row-Stmt-2 sb.hidden-the_row-Arm-3 sb.hidden-the_row-Case-0 denote.Hole.Carrier.hidden
row_do_first = holds _ _ _ _ _ refl refl

-- `par { { c ! 7; z = 1; } { delay; delay; c ? x; } }`: a send waits for its partner
row_channel : Holds (core (chan ∷ reg 4 0 ∷ reg 4 0 ∷ []) (par (seq (sends 0 7 ∷ sets 2 1 ∷ []) ∷ seq (delay ∷ delay ∷ receives 0 1 ∷ []) ∷ []) ∷ [])) no_inputs 5 (1 ∷ 2 ∷ [])
    (((0 ∷ []) ∷ (0 ∷ []) ∷ (0 ∷ []) ∷ (7 ∷ []) ∷ (7 ∷ []) ∷ (7 ∷ []) ∷ []) ∷ ((0 ∷ []) ∷ (0 ∷ []) ∷ (0 ∷ []) ∷ (0 ∷ []) ∷ (1 ∷ []) ∷ (1 ∷ []) ∷ []) ∷ [])
unfolding residual statement statements_in cases_in arms_in target expression eb.hidden-the_row-Expr-0 sb.hidden-the_row-Stmt-1 sb.hidden-the_row-Stmt-2 sb.hidden-the_row-Arm-3 sb.hidden-the_row-Case-0 denote.Hole.Carrier.hidden
row_channel = holds _ _ _ _ _ refl refl

-- `par { c ! 1; { c ? x; c ? x; } }`: the second receive waits for good
row_second_receive : Holds (core (chan ∷ reg 4 0 ∷ []) (par (sends 0 1 ∷ seq (receives 0 1 ∷ receives 0 1 ∷ []) ∷ []) ∷ [])) no_inputs 3 (1 ∷ [])
    (((0 ∷ []) ∷ (1 ∷ []) ∷ (1 ∷ []) ∷ (1 ∷ []) ∷ []) ∷ [])
unfolding residual statement statements_in cases_in arms_in target expression eb.hidden-the_row-Expr-0 sb.hidden-the_row-Stmt-1 sb.hidden-the_row-Stmt-2 sb.hidden-the_row-Arm-3 sb.hidden-the_row-Case-0 denote.Hole.Carrier.hidden
row_second_receive = holds _ _ _ _ _ refl refl

-- `par { c ? x; x = 5; }`: a receive that waits writes nothing
row_waiting_receive : Holds (core (chan ∷ reg 4 3 ∷ []) (par (receives 0 1 ∷ sets 1 5 ∷ []) ∷ [])) no_inputs 2 (1 ∷ [])
    (((3 ∷ []) ∷ (5 ∷ []) ∷ (5 ∷ []) ∷ []) ∷ [])
unfolding residual statement statements_in cases_in arms_in target expression eb.hidden-the_row-Expr-0 sb.hidden-the_row-Stmt-1 sb.hidden-the_row-Stmt-2 sb.hidden-the_row-Arm-3 sb.hidden-the_row-Case-0 denote.Hole.Carrier.hidden
row_waiting_receive = holds _ _ _ _ _ refl refl

-- `par { a ! 1; b ! 2; prialt { case b ? x: break; case a ? x: break; } }`: the first ready case is taken
row_prialt : Holds (core (chan ∷ chan ∷ reg 4 0 ∷ []) (par (sends 0 1 ∷ sends 1 2 ∷ s.Prialt here (receive_case 1 2 [] ∷ receive_case 0 2 [] ∷ []) None ∷ []) ∷ [])) no_inputs 3 (2 ∷ [])
    (((0 ∷ []) ∷ (2 ∷ []) ∷ (2 ∷ []) ∷ (2 ∷ []) ∷ []) ∷ [])
unfolding residual statement statements_in cases_in arms_in target expression eb.hidden-the_row-Expr-0 sb.hidden-the_row-Stmt-1 sb.hidden-the_row-Stmt-2 sb.hidden-the_row-Arm-3 sb.hidden-the_row-Case-0 denote.Hole.Carrier.hidden
row_prialt = holds _ _ _ _ _ refl refl

-- `par { a ! 1; prialt { case b ? x: break; case a ? x: y = 3; break; } }`: a case that isn't ready is not taken
row_second_ready : Holds (core (chan ∷ chan ∷ reg 4 0 ∷ reg 4 0 ∷ []) (par (sends 0 1 ∷ s.Prialt here (receive_case 1 2 [] ∷ receive_case 0 2 (sets 3 3 ∷ []) ∷ []) None ∷ []) ∷ [])) no_inputs 2 (2 ∷ 3 ∷ [])
    (((0 ∷ []) ∷ (1 ∷ []) ∷ (1 ∷ []) ∷ []) ∷ ((0 ∷ []) ∷ (0 ∷ []) ∷ (3 ∷ []) ∷ []) ∷ [])
unfolding residual statement statements_in cases_in arms_in target expression eb.hidden-the_row-Expr-0 sb.hidden-the_row-Stmt-1 sb.hidden-the_row-Stmt-2 sb.hidden-the_row-Arm-3 sb.hidden-the_row-Case-0 denote.Hole.Carrier.hidden
row_second_ready = holds _ _ _ _ _ refl refl

-- `par { { c ! 1; z = 1; } prialt { case c ? x: y = 2; break; default: y = 3; break; } }`: the case takes a clock, then its arm, and the send is done
row_receive_case : Holds (core (chan ∷ reg 4 0 ∷ reg 4 0 ∷ reg 4 0 ∷ []) (par (seq (sends 0 1 ∷ sets 3 1 ∷ []) ∷ s.Prialt here (receive_case 0 1 (sets 2 2 ∷ []) ∷ []) (Some (sets 2 3)) ∷ []) ∷ [])) no_inputs 2 (1 ∷ 2 ∷ 3 ∷ [])
    (((0 ∷ []) ∷ (1 ∷ []) ∷ (1 ∷ []) ∷ []) ∷ ((0 ∷ []) ∷ (0 ∷ []) ∷ (2 ∷ []) ∷ []) ∷ ((0 ∷ []) ∷ (0 ∷ []) ∷ (1 ∷ []) ∷ []) ∷ [])
unfolding residual statement statements_in cases_in arms_in target expression eb.hidden-the_row-Expr-0 sb.hidden-the_row-Stmt-1 sb.hidden-the_row-Stmt-2 sb.hidden-the_row-Arm-3 sb.hidden-the_row-Case-0 denote.Hole.Carrier.hidden
row_receive_case = holds _ _ _ _ _ refl refl

-- `par { { c ? x; z = 1; } prialt { case c ! 7: y = 2; break; } }`: the case sends its value, and the receive is done
row_send_case : Holds (core (chan ∷ reg 4 0 ∷ reg 4 0 ∷ reg 4 0 ∷ []) (par (seq (receives 0 1 ∷ sets 3 1 ∷ []) ∷ waits_for (send_case 0 7 (sets 2 2 ∷ [])) ∷ []) ∷ [])) no_inputs 2 (1 ∷ 2 ∷ 3 ∷ [])
    (((0 ∷ []) ∷ (7 ∷ []) ∷ (7 ∷ []) ∷ []) ∷ ((0 ∷ []) ∷ (0 ∷ []) ∷ (2 ∷ []) ∷ []) ∷ ((0 ∷ []) ∷ (0 ∷ []) ∷ (1 ∷ []) ∷ []) ∷ [])
unfolding residual statement statements_in cases_in arms_in target expression eb.hidden-the_row-Expr-0 sb.hidden-the_row-Stmt-1 sb.hidden-the_row-Stmt-2 sb.hidden-the_row-Arm-3 sb.hidden-the_row-Case-0 denote.Hole.Carrier.hidden
row_send_case = holds _ _ _ _ _ refl refl

-- `par { prialt { case c ? x: break; } { delay; c ! 5; } } y = 1;`: without a ready case it waits
row_waiting_prialt : Holds (core (chan ∷ reg 4 0 ∷ reg 4 0 ∷ []) (par (waits_for (receive_case 0 1 []) ∷ seq (delay ∷ sends 0 5 ∷ []) ∷ []) ∷ sets 2 1 ∷ [])) no_inputs 3 (1 ∷ 2 ∷ [])
    (((0 ∷ []) ∷ (0 ∷ []) ∷ (5 ∷ []) ∷ (5 ∷ []) ∷ []) ∷ ((0 ∷ []) ∷ (0 ∷ []) ∷ (0 ∷ []) ∷ (1 ∷ []) ∷ []) ∷ [])
unfolding residual statement statements_in cases_in arms_in target expression eb.hidden-the_row-Expr-0 sb.hidden-the_row-Stmt-1 sb.hidden-the_row-Stmt-2 sb.hidden-the_row-Arm-3 sb.hidden-the_row-Case-0 denote.Hole.Carrier.hidden
row_waiting_prialt = holds _ _ _ _ _ refl refl

-- `prialt { case c ? x: break; default: y = 1; break; }`: the default takes no clock of its own
row_default : Holds (core (chan ∷ reg 4 0 ∷ reg 4 0 ∷ []) (s.Prialt here (receive_case 0 1 [] ∷ []) (Some (sets 2 1)) ∷ [])) no_inputs 2 (1 ∷ 2 ∷ [])
    (((0 ∷ []) ∷ (0 ∷ []) ∷ (0 ∷ []) ∷ []) ∷ ((0 ∷ []) ∷ (1 ∷ []) ∷ (1 ∷ []) ∷ []) ∷ [])
unfolding residual statement statements_in cases_in arms_in target expression eb.hidden-the_row-Expr-0 sb.hidden-the_row-Stmt-1 sb.hidden-the_row-Stmt-2 sb.hidden-the_row-Arm-3 sb.hidden-the_row-Case-0 denote.Hole.Carrier.hidden
row_default = holds _ _ _ _ _ refl refl

-- `par { s = 5; x = s; } y = s;`: a signal has its value in its clock alone, and else its default
row_signal : Holds (core (sig 3 ∷ reg 4 0 ∷ reg 4 9 ∷ []) (par (s.Assign here (t.Signal 0) (const 4 5) ∷ takes 1 (e.Signal 0) ∷ []) ∷ takes 2 (e.Signal 0) ∷ [])) no_inputs 2 (1 ∷ 2 ∷ [])
    (((0 ∷ []) ∷ (5 ∷ []) ∷ (5 ∷ []) ∷ []) ∷ ((9 ∷ []) ∷ (9 ∷ []) ∷ (3 ∷ []) ∷ []) ∷ [])
unfolding residual statement statements_in cases_in arms_in target expression eb.hidden-the_row-Expr-0 sb.hidden-the_row-Stmt-1 sb.hidden-the_row-Stmt-2 sb.hidden-the_row-Arm-3 sb.hidden-the_row-Case-0 denote.Hole.Carrier.hidden
row_signal = holds _ _ _ _ _ refl refl

-- `par { x = t; t = s; s = 5; }`: a signal that reads a signal
row_chain : Holds (core (sig 0 ∷ sig 0 ∷ reg 4 0 ∷ []) (par (takes 2 (e.Signal 1) ∷ s.Assign here (t.Signal 1) (e.Signal 0) ∷ s.Assign here (t.Signal 0) (const 4 5) ∷ []) ∷ [])) no_inputs 1 (2 ∷ [])
    (((0 ∷ []) ∷ (5 ∷ []) ∷ []) ∷ [])
unfolding residual statement statements_in cases_in arms_in target expression eb.hidden-the_row-Expr-0 sb.hidden-the_row-Stmt-1 sb.hidden-the_row-Stmt-2 sb.hidden-the_row-Arm-3 sb.hidden-the_row-Case-0 denote.Hole.Carrier.hidden
row_chain = holds _ _ _ _ _ refl refl

-- `par { s = m[1]; if (s == 6) x = 1; }`: a signal that reads a word decides an `if`
row_word_then_signal : Holds (core (sig 0 ∷ ram 2 (4 ∷ 6 ∷ []) ∷ reg 4 0 ∷ []) (par (s.Assign here (t.Signal 0) (e.Word 1 (const 1 1)) ∷ s.If here (e.Binary Eq (e.Signal 0) (const 4 6)) (sets 2 1) s.Skip ∷ []) ∷ [])) no_inputs 1 (2 ∷ [])
    (((0 ∷ []) ∷ (1 ∷ []) ∷ []) ∷ [])
unfolding residual statement statements_in cases_in arms_in target expression eb.hidden-the_row-Expr-0 sb.hidden-the_row-Stmt-1 sb.hidden-the_row-Stmt-2 sb.hidden-the_row-Arm-3 sb.hidden-the_row-Case-0 denote.Hole.Carrier.hidden
row_word_then_signal = holds _ _ _ _ _ refl refl

-- `m[1] = 5; x = m[1];`
row_ram : Holds (core (ram 4 [] ∷ reg 4 0 ∷ []) (s.Assign here (t.Word 0 (const 2 1)) (const 4 5) ∷ takes 1 (e.Word 0 (const 2 1)) ∷ [])) no_inputs 2 (0 ∷ 1 ∷ [])
    (((0 ∷ 0 ∷ 0 ∷ 0 ∷ []) ∷ (0 ∷ 5 ∷ 0 ∷ 0 ∷ []) ∷ (0 ∷ 5 ∷ 0 ∷ 0 ∷ []) ∷ []) ∷ ((0 ∷ []) ∷ (0 ∷ []) ∷ (5 ∷ []) ∷ []) ∷ [])
unfolding residual statement statements_in cases_in arms_in target expression eb.hidden-the_row-Expr-0 sb.hidden-the_row-Stmt-1 sb.hidden-the_row-Stmt-2 sb.hidden-the_row-Arm-3 sb.hidden-the_row-Case-0 denote.Hole.Carrier.hidden
row_ram = holds _ _ _ _ _ refl refl

-- `if (m[3] == 0) x = 1;`
row_ram_condition : Holds (core (ram 4 [] ∷ reg 4 0 ∷ []) (s.If here (e.Binary Eq (e.Word 0 (const 2 3)) (const 4 0)) (sets 1 1) s.Skip ∷ [])) no_inputs 1 (1 ∷ [])
    (((0 ∷ []) ∷ (1 ∷ []) ∷ []) ∷ [])
unfolding residual statement statements_in cases_in arms_in target expression eb.hidden-the_row-Expr-0 sb.hidden-the_row-Stmt-1 sb.hidden-the_row-Stmt-2 sb.hidden-the_row-Arm-3 sb.hidden-the_row-Case-0 denote.Hole.Carrier.hidden
row_ram_condition = holds _ _ _ _ _ refl refl

-- `m[i] = 7; x = m[i];` with i outside: nothing is written, and 0 is read
row_ram_outside : Holds (core (ram 3 [] ∷ reg 2 3 ∷ reg 4 9 ∷ []) (s.Assign here (t.Word 0 (e.Reg 1)) (const 4 7) ∷ takes 2 (e.Word 0 (e.Reg 1)) ∷ [])) no_inputs 2 (0 ∷ 2 ∷ [])
    (((0 ∷ 0 ∷ 0 ∷ []) ∷ (0 ∷ 0 ∷ 0 ∷ []) ∷ (0 ∷ 0 ∷ 0 ∷ []) ∷ []) ∷ ((9 ∷ []) ∷ (9 ∷ []) ∷ (0 ∷ []) ∷ []) ∷ [])
unfolding residual statement statements_in cases_in arms_in target expression eb.hidden-the_row-Expr-0 sb.hidden-the_row-Stmt-1 sb.hidden-the_row-Stmt-2 sb.hidden-the_row-Arm-3 sb.hidden-the_row-Case-0 denote.Hole.Carrier.hidden
row_ram_outside = holds _ _ _ _ _ refl refl

-- `par { x = m[0]; y = r[1]; }`: the first words of a RAM and of a ROM, and 0 behind them
row_memories : Holds (core (ram 2 (6 ∷ []) ∷ rom 3 (7 ∷ 8 ∷ []) ∷ reg 4 0 ∷ reg 4 0 ∷ []) (par (takes 2 (e.Word 0 (const 1 0)) ∷ takes 3 (e.Word 1 (const 2 1)) ∷ []) ∷ [])) no_inputs 1 (0 ∷ 1 ∷ 2 ∷ 3 ∷ [])
    (((6 ∷ 0 ∷ []) ∷ (6 ∷ 0 ∷ []) ∷ []) ∷ ((7 ∷ 8 ∷ 0 ∷ []) ∷ (7 ∷ 8 ∷ 0 ∷ []) ∷ []) ∷ ((0 ∷ []) ∷ (6 ∷ []) ∷ []) ∷ ((0 ∷ []) ∷ (8 ∷ []) ∷ []) ∷ [])
unfolding residual statement statements_in cases_in arms_in target expression eb.hidden-the_row-Expr-0 sb.hidden-the_row-Stmt-1 sb.hidden-the_row-Stmt-2 sb.hidden-the_row-Arm-3 sb.hidden-the_row-Case-0 denote.Hole.Carrier.hidden
row_memories = holds _ _ _ _ _ refl refl

-- `while (1) par { while (m[i] == 3) delay; i = 1; }`: a condition that is evaluated twice in clock 1 is one use
row_evaluated_again : Holds (core (ram 2 (3 ∷ 0 ∷ []) ∷ reg 1 0 ∷ []) (s.While here (const 1 1) (par ((s.While here (e.Binary Eq (e.Word 0 (e.Reg 1)) (const 4 3)) delay) ∷ s.Assign here (t.Reg 1) (const 1 1) ∷ [])) ∷ [])) no_inputs 3 (1 ∷ [])
    (((0 ∷ []) ∷ (1 ∷ []) ∷ (1 ∷ []) ∷ (1 ∷ []) ∷ []) ∷ [])
unfolding residual statement statements_in cases_in arms_in target expression eb.hidden-the_row-Expr-0 sb.hidden-the_row-Stmt-1 sb.hidden-the_row-Stmt-2 sb.hidden-the_row-Arm-3 sb.hidden-the_row-Case-0 denote.Hole.Carrier.hidden
row_evaluated_again = holds _ _ _ _ _ refl refl

-- `par { if (z == 0) if (m[0] == 1) delay; y = m[1]; }` with z = 1: a condition that isn't evaluated doesn't count
row_condition_apart : Holds (core (reg 4 0 ∷ reg 4 0 ∷ ram 2 [] ∷ reg 4 1 ∷ chan ∷ array 2 [] ∷ []) (par (s.If here (e.Binary Eq (e.Reg 3) (const 4 0)) tests_word s.Skip ∷ takes 1 (e.Word 2 (const 1 1)) ∷ []) ∷ [])) no_inputs 1 (1 ∷ [])
    (((0 ∷ []) ∷ (0 ∷ []) ∷ []) ∷ [])
unfolding residual statement statements_in cases_in arms_in target expression eb.hidden-the_row-Expr-0 sb.hidden-the_row-Stmt-1 sb.hidden-the_row-Stmt-2 sb.hidden-the_row-Arm-3 sb.hidden-the_row-Case-0 denote.Hole.Carrier.hidden
row_condition_apart = holds _ _ _ _ _ refl refl

-- `par { { delay; if (m[0] == 1) delay; } y = m[1]; }`: nor one behind an action
row_condition_later : Holds (core (reg 4 0 ∷ reg 4 0 ∷ ram 2 [] ∷ reg 4 1 ∷ chan ∷ array 2 [] ∷ []) (par (seq (delay ∷ tests_word ∷ []) ∷ takes 1 (e.Word 2 (const 1 1)) ∷ []) ∷ [])) no_inputs 2 (1 ∷ [])
    (((0 ∷ []) ∷ (0 ∷ []) ∷ (0 ∷ []) ∷ []) ∷ [])
unfolding residual statement statements_in cases_in arms_in target expression eb.hidden-the_row-Expr-0 sb.hidden-the_row-Stmt-1 sb.hidden-the_row-Stmt-2 sb.hidden-the_row-Arm-3 sb.hidden-the_row-Case-0 denote.Hole.Carrier.hidden
row_condition_later = holds _ _ _ _ _ refl refl

-- an output shows its value of the same clock: `x = x + 1` for ever, with x and an input as outputs
row_outputs : Shows (core (reg 4 0 ∷ kind.Input 1 false [] ∷ kind.Output 4 false [] (e.Reg 0) ∷ kind.Output 1 false [] (e.Input 1) ∷ []) ((s.While here (const 1 1) (counts 0)) ∷ [])) every_other 3
    ((0 ∷ 1 ∷ []) ∷ (1 ∷ 0 ∷ []) ∷ (2 ∷ 1 ∷ []) ∷ [])
unfolding residual statement statements_in cases_in arms_in target expression eb.hidden-the_row-Expr-0 sb.hidden-the_row-Stmt-1 sb.hidden-the_row-Stmt-2 sb.hidden-the_row-Arm-3 sb.hidden-the_row-Case-0 denote.Hole.Carrier.hidden
row_outputs = shows _ _ _ _ refl refl

-- the case that is taken is known by its number
row_taken : taken (world_of [] [] (record { rest = Skip; store = [] }) (record { signals = []; sends = false ∷ true ∷ []; receives = true ∷ false ∷ [] }))
    (chooses_from 3 (case_of 4 (Receives 0 (ToRegister 2)) Skip (case_of 5 (Sends 1 (Constant (number 4 0))) Skip (case_of 6 (Receives 1 (ToRegister 2)) Skip (case_of 7 (Receives 1 (ToRegister 3)) Skip no_case)))))
    ≡ Some (6, Receives 1 (ToRegister 2))
row_taken = refl
