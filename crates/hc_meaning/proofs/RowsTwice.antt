-- Worked rows of clocks that aren't clean: the least object that is used twice.
use Rattle.std.proofs.Common.{[], ◌∷◌, true, false, Some, refl}
use Rattle.hc_core.specs.Read.{expression, target, statement, statements_in, cases_in, arms_in}
use Rattle.hc_core.specs.declared.expr.BinOp.TheVariants.{Eq}
use Rattle.hc_core.specs.declared.expr.Expr.TheVariants as e
use Rattle.hc_core.specs.declared.expr.Expr.TheBlock as eb
use Rattle.hc_core.specs.declared.stmt.Stmt.TheVariants as s
use Rattle.hc_core.specs.declared.stmt.Case.TheVariants as c
use Rattle.hc_core.specs.declared.stmt.Case.TheBlock as sb
use Rattle.hc_core.specs.declared.stmt.Target.TheVariants as t
use Rattle.hc_meaning.specs.Residual.{residual}
use Rattle.hc_meaning.proofs.Programs.{here, core, no_inputs, reg, array, ram, rom, sig, chan, const, sets, takes, delay, par, seq, sends, receives, waits_for, receive_case, send_case, arm_of, word_is_one, tests_word}
use Rattle.hc_meaning.proofs.Ran.{Conflicts, conflicts, Shown, is_shown}

-- `par { x = 1; x = 2; }`
register_twice : Conflicts (core (reg 4 0 ∷ []) (par (sets 0 1 ∷ sets 0 2 ∷ []) ∷ [])) no_inputs 0 0
unfolding residual statement statements_in cases_in arms_in target expression eb.hidden-the_row-Expr-0 sb.hidden-the_row-Stmt-1 sb.hidden-the_row-Stmt-2 sb.hidden-the_row-Arm-3 sb.hidden-the_row-Case-0 denote.Hole.Carrier.hidden
register_twice = conflicts _ _ _ _ refl refl refl

-- `delay; par { x = 1; x = 2; }`: the clock before is clean
register_twice_later : Conflicts (core (reg 4 0 ∷ []) (delay ∷ par (sets 0 1 ∷ sets 0 2 ∷ []) ∷ [])) no_inputs 1 0
unfolding residual statement statements_in cases_in arms_in target expression eb.hidden-the_row-Expr-0 sb.hidden-the_row-Stmt-1 sb.hidden-the_row-Stmt-2 sb.hidden-the_row-Arm-3 sb.hidden-the_row-Case-0 denote.Hole.Carrier.hidden
register_twice_later = conflicts _ _ _ _ refl refl refl

-- `par { a[1] = 1; a[i] = 2; }` with i = 1
element_twice : Conflicts (core (chan ∷ array 4 [] ∷ reg 2 1 ∷ []) (par (s.Assign here (t.Element 1 (const 2 1)) (const 4 1) ∷ s.Assign here (t.Element 1 (e.Reg 2)) (const 4 2) ∷ []) ∷ [])) no_inputs 0 1
unfolding residual statement statements_in cases_in arms_in target expression eb.hidden-the_row-Expr-0 sb.hidden-the_row-Stmt-1 sb.hidden-the_row-Stmt-2 sb.hidden-the_row-Arm-3 sb.hidden-the_row-Case-0 denote.Hole.Carrier.hidden
element_twice = conflicts _ _ _ _ refl refl refl

-- `par { x = 1; c ? x; c ! 2; }`: a receive that is completed writes
received_and_assigned : Conflicts (core (chan ∷ reg 4 0 ∷ []) (par (sets 1 1 ∷ receives 0 1 ∷ sends 0 2 ∷ []) ∷ [])) no_inputs 0 1
unfolding residual statement statements_in cases_in arms_in target expression eb.hidden-the_row-Expr-0 sb.hidden-the_row-Stmt-1 sb.hidden-the_row-Stmt-2 sb.hidden-the_row-Arm-3 sb.hidden-the_row-Case-0 denote.Hole.Carrier.hidden
received_and_assigned = conflicts _ _ _ _ refl refl refl

-- `par { x = 1; prialt { case c ? x: break; } c ! 2; }`: a receive case that is taken writes
taken_and_assigned : Conflicts (core (chan ∷ reg 4 0 ∷ []) (par (sets 1 1 ∷ waits_for (receive_case 0 1 []) ∷ sends 0 2 ∷ []) ∷ [])) no_inputs 0 1
unfolding residual statement statements_in cases_in arms_in target expression eb.hidden-the_row-Expr-0 sb.hidden-the_row-Stmt-1 sb.hidden-the_row-Stmt-2 sb.hidden-the_row-Arm-3 sb.hidden-the_row-Case-0 denote.Hole.Carrier.hidden
taken_and_assigned = conflicts _ _ _ _ refl refl refl

-- `par { s = 1; s = 2; x = s; }`
signal_twice : Conflicts (core (reg 4 0 ∷ sig 0 ∷ []) (par (s.Assign here (t.Signal 1) (const 4 1) ∷ s.Assign here (t.Signal 1) (const 4 2) ∷ takes 0 (e.Signal 1) ∷ []) ∷ [])) no_inputs 0 1
unfolding residual statement statements_in cases_in arms_in target expression eb.hidden-the_row-Expr-0 sb.hidden-the_row-Stmt-1 sb.hidden-the_row-Stmt-2 sb.hidden-the_row-Arm-3 sb.hidden-the_row-Case-0 denote.Hole.Carrier.hidden
signal_twice = conflicts _ _ _ _ refl refl refl

-- `par { x = m[0]; y = m[0]; }`
ram_by_actions : Conflicts (core (reg 4 0 ∷ reg 4 0 ∷ ram 2 [] ∷ []) (par (takes 0 (e.Word 2 (const 1 0)) ∷ takes 1 (e.Word 2 (const 1 0)) ∷ []) ∷ [])) no_inputs 0 2
unfolding residual statement statements_in cases_in arms_in target expression eb.hidden-the_row-Expr-0 sb.hidden-the_row-Stmt-1 sb.hidden-the_row-Stmt-2 sb.hidden-the_row-Arm-3 sb.hidden-the_row-Case-0 denote.Hole.Carrier.hidden
ram_by_actions = conflicts _ _ _ _ refl refl refl

-- `par { m[0] = 1; y = m[1]; }`
ram_written_and_read : Conflicts (core (reg 4 0 ∷ reg 4 0 ∷ ram 2 [] ∷ []) (par (s.Assign here (t.Word 2 (const 1 0)) (const 4 1) ∷ takes 1 (e.Word 2 (const 1 1)) ∷ []) ∷ [])) no_inputs 0 2
unfolding residual statement statements_in cases_in arms_in target expression eb.hidden-the_row-Expr-0 sb.hidden-the_row-Stmt-1 sb.hidden-the_row-Stmt-2 sb.hidden-the_row-Arm-3 sb.hidden-the_row-Case-0 denote.Hole.Carrier.hidden
ram_written_and_read = conflicts _ _ _ _ refl refl refl

-- `par { if (m[0] == 1) x = 1; y = m[1]; }`: a condition accesses it, and an action
ram_by_condition : Conflicts (core (reg 4 0 ∷ reg 4 0 ∷ ram 2 [] ∷ []) (par (s.If here (e.Binary Eq (e.Word 2 (const 1 0)) (const 4 1)) (sets 0 1) s.Skip ∷ takes 1 (e.Word 2 (const 1 1)) ∷ []) ∷ [])) no_inputs 0 2
unfolding residual statement statements_in cases_in arms_in target expression eb.hidden-the_row-Expr-0 sb.hidden-the_row-Stmt-1 sb.hidden-the_row-Stmt-2 sb.hidden-the_row-Arm-3 sb.hidden-the_row-Case-0 denote.Hole.Carrier.hidden
ram_by_condition = conflicts _ _ _ _ refl refl refl

-- `par { if (r[0] == 1) x = 1; if (r[1] == 1) y = 1; }`
rom_by_conditions : Conflicts (core (reg 4 0 ∷ reg 4 0 ∷ rom 2 [] ∷ []) (par (s.If here (e.Binary Eq (e.Word 2 (const 1 0)) (const 4 1)) (sets 0 1) s.Skip ∷ s.If here (e.Binary Eq (e.Word 2 (const 1 1)) (const 4 1)) (sets 1 1) s.Skip ∷ []) ∷ [])) no_inputs 0 2
unfolding residual statement statements_in cases_in arms_in target expression eb.hidden-the_row-Expr-0 sb.hidden-the_row-Stmt-1 sb.hidden-the_row-Stmt-2 sb.hidden-the_row-Arm-3 sb.hidden-the_row-Case-0 denote.Hole.Carrier.hidden
rom_by_conditions = conflicts _ _ _ _ refl refl refl

-- `par { c ! 1; c ! 2; }`: sends that wait are offers
two_sends : Conflicts (core (reg 4 0 ∷ chan ∷ []) (par (sends 1 1 ∷ sends 1 2 ∷ []) ∷ [])) no_inputs 0 1
unfolding residual statement statements_in cases_in arms_in target expression eb.hidden-the_row-Expr-0 sb.hidden-the_row-Stmt-1 sb.hidden-the_row-Stmt-2 sb.hidden-the_row-Arm-3 sb.hidden-the_row-Case-0 denote.Hole.Carrier.hidden
two_sends = conflicts _ _ _ _ refl refl refl

-- `par { c ? x; c ? y; }`
two_receives : Conflicts (core (reg 4 0 ∷ reg 4 0 ∷ chan ∷ []) (par (receives 2 0 ∷ receives 2 1 ∷ []) ∷ [])) no_inputs 0 2
unfolding residual statement statements_in cases_in arms_in target expression eb.hidden-the_row-Expr-0 sb.hidden-the_row-Stmt-1 sb.hidden-the_row-Stmt-2 sb.hidden-the_row-Arm-3 sb.hidden-the_row-Case-0 denote.Hole.Carrier.hidden
two_receives = conflicts _ _ _ _ refl refl refl

-- `par { c ! 1; prialt { case c ! 2: break; } }`: a send case offers, too
send_and_case : Conflicts (core (reg 4 0 ∷ chan ∷ []) (par (sends 1 1 ∷ waits_for (send_case 1 2 []) ∷ []) ∷ [])) no_inputs 0 1
unfolding residual statement statements_in cases_in arms_in target expression eb.hidden-the_row-Expr-0 sb.hidden-the_row-Stmt-1 sb.hidden-the_row-Stmt-2 sb.hidden-the_row-Arm-3 sb.hidden-the_row-Case-0 denote.Hole.Carrier.hidden
send_and_case = conflicts _ _ _ _ refl refl refl

-- `par { c ? x; prialt { case c ? y: break; } }`
receive_and_case : Conflicts (core (reg 4 0 ∷ reg 4 0 ∷ chan ∷ []) (par (receives 2 0 ∷ waits_for (receive_case 2 1 []) ∷ []) ∷ [])) no_inputs 0 2
unfolding residual statement statements_in cases_in arms_in target expression eb.hidden-the_row-Expr-0 sb.hidden-the_row-Stmt-1 sb.hidden-the_row-Stmt-2 sb.hidden-the_row-Arm-3 sb.hidden-the_row-Case-0 denote.Hole.Carrier.hidden
receive_and_case = conflicts _ _ _ _ refl refl refl

-- `par { a ! 1; prialt { case b ! 2: break; case a ! 3: break; default: delay; break; } b ? x; }`: so does each case of a `prialt`
case_behind_the_first : Conflicts (core (reg 4 0 ∷ chan ∷ chan ∷ []) (par (sends 1 1 ∷ s.Prialt here (send_case 2 2 [] ∷ send_case 1 3 [] ∷ []) (Some delay) ∷ receives 2 0 ∷ []) ∷ [])) no_inputs 0 1
unfolding residual statement statements_in cases_in arms_in target expression eb.hidden-the_row-Expr-0 sb.hidden-the_row-Stmt-1 sb.hidden-the_row-Stmt-2 sb.hidden-the_row-Arm-3 sb.hidden-the_row-Case-0 denote.Hole.Carrier.hidden
case_behind_the_first = conflicts _ _ _ _ refl refl refl

-- `par { c ! 1; c ! 2; y = 1; y = 2; x = 1; x = 2; }`: the least of three
least : Conflicts (core (sig 0 ∷ reg 4 0 ∷ reg 4 0 ∷ chan ∷ []) (par (sends 3 1 ∷ sends 3 2 ∷ sets 2 1 ∷ sets 2 2 ∷ sets 1 1 ∷ sets 1 2 ∷ []) ∷ [])) no_inputs 0 1
unfolding residual statement statements_in cases_in arms_in target expression eb.hidden-the_row-Expr-0 sb.hidden-the_row-Stmt-1 sb.hidden-the_row-Stmt-2 sb.hidden-the_row-Arm-3 sb.hidden-the_row-Case-0 denote.Hole.Carrier.hidden
least = conflicts _ _ _ _ refl refl refl

-- `par { while (m[0] == 1) delay; y = m[1]; }`: the condition of a loop counts
word_in_while : Conflicts (core (reg 4 0 ∷ reg 4 0 ∷ ram 2 [] ∷ reg 4 1 ∷ chan ∷ array 2 [] ∷ []) (par (s.While here word_is_one delay ∷ takes 1 (e.Word 2 (const 1 1)) ∷ []) ∷ [])) no_inputs 0 2
unfolding residual statement statements_in cases_in arms_in target expression eb.hidden-the_row-Expr-0 sb.hidden-the_row-Stmt-1 sb.hidden-the_row-Stmt-2 sb.hidden-the_row-Arm-3 sb.hidden-the_row-Case-0 denote.Hole.Carrier.hidden
word_in_while = conflicts _ _ _ _ refl refl refl

-- so does a condition in the body of a loop,
word_in_a_loop : Conflicts (core (reg 4 0 ∷ reg 4 0 ∷ ram 2 [] ∷ reg 4 1 ∷ chan ∷ array 2 [] ∷ []) (par (s.While here (const 1 1) (seq (tests_word ∷ delay ∷ [])) ∷ takes 1 (e.Word 2 (const 1 1)) ∷ []) ∷ [])) no_inputs 0 2
unfolding residual statement statements_in cases_in arms_in target expression eb.hidden-the_row-Expr-0 sb.hidden-the_row-Stmt-1 sb.hidden-the_row-Stmt-2 sb.hidden-the_row-Arm-3 sb.hidden-the_row-Case-0 denote.Hole.Carrier.hidden
word_in_a_loop = conflicts _ _ _ _ refl refl refl

-- in the body of `do`,
word_in_do : Conflicts (core (reg 4 0 ∷ reg 4 0 ∷ ram 2 [] ∷ reg 4 1 ∷ chan ∷ array 2 [] ∷ []) (par (s.DoWhile here (seq (tests_word ∷ delay ∷ [])) (const 1 0) ∷ takes 1 (e.Word 2 (const 1 1)) ∷ []) ∷ [])) no_inputs 0 2
unfolding residual statement statements_in cases_in arms_in target expression eb.hidden-the_row-Expr-0 sb.hidden-the_row-Stmt-1 sb.hidden-the_row-Stmt-2 sb.hidden-the_row-Arm-3 sb.hidden-the_row-Case-0 denote.Hole.Carrier.hidden
word_in_do = conflicts _ _ _ _ refl refl refl

-- in the selector of a `switch`,
word_in_selector : Conflicts (core (reg 4 0 ∷ reg 4 0 ∷ ram 2 [] ∷ reg 4 1 ∷ chan ∷ array 2 [] ∷ []) (par (s.Switch here (e.Word 2 (const 1 0)) (arm_of (1 ∷ []) false (delay ∷ []) ∷ []) ∷ takes 1 (e.Word 2 (const 1 1)) ∷ []) ∷ [])) no_inputs 0 2
unfolding residual statement statements_in cases_in arms_in target expression eb.hidden-the_row-Expr-0 sb.hidden-the_row-Stmt-1 sb.hidden-the_row-Stmt-2 sb.hidden-the_row-Arm-3 sb.hidden-the_row-Case-0 denote.Hole.Carrier.hidden
word_in_selector = conflicts _ _ _ _ refl refl refl

-- in an arm,
word_in_an_arm : Conflicts (core (reg 4 0 ∷ reg 4 0 ∷ ram 2 [] ∷ reg 4 1 ∷ chan ∷ array 2 [] ∷ []) (par (s.Switch here (e.Reg 3) (arm_of (5 ∷ []) false [] ∷ arm_of (1 ∷ []) false (tests_word ∷ []) ∷ []) ∷ takes 1 (e.Word 2 (const 1 1)) ∷ []) ∷ [])) no_inputs 0 2
unfolding residual statement statements_in cases_in arms_in target expression eb.hidden-the_row-Expr-0 sb.hidden-the_row-Stmt-1 sb.hidden-the_row-Stmt-2 sb.hidden-the_row-Arm-3 sb.hidden-the_row-Case-0 denote.Hole.Carrier.hidden
word_in_an_arm = conflicts _ _ _ _ refl refl refl

-- in the arm with the label `default`,
word_in_default_arm : Conflicts (core (reg 4 0 ∷ reg 4 0 ∷ ram 2 [] ∷ reg 4 1 ∷ chan ∷ array 2 [] ∷ []) (par (s.Switch here (e.Reg 3) (arm_of (5 ∷ []) false [] ∷ arm_of [] true (tests_word ∷ []) ∷ []) ∷ takes 1 (e.Word 2 (const 1 1)) ∷ []) ∷ [])) no_inputs 0 2
unfolding residual statement statements_in cases_in arms_in target expression eb.hidden-the_row-Expr-0 sb.hidden-the_row-Stmt-1 sb.hidden-the_row-Stmt-2 sb.hidden-the_row-Arm-3 sb.hidden-the_row-Case-0 denote.Hole.Carrier.hidden
word_in_default_arm = conflicts _ _ _ _ refl refl refl

-- in the default of a `prialt`,
word_in_default : Conflicts (core (reg 4 0 ∷ reg 4 0 ∷ ram 2 [] ∷ reg 4 1 ∷ chan ∷ array 2 [] ∷ []) (par (s.Prialt here (receive_case 4 0 [] ∷ []) (Some tests_word) ∷ takes 1 (e.Word 2 (const 1 1)) ∷ []) ∷ [])) no_inputs 0 2
unfolding residual statement statements_in cases_in arms_in target expression eb.hidden-the_row-Expr-0 sb.hidden-the_row-Stmt-1 sb.hidden-the_row-Stmt-2 sb.hidden-the_row-Arm-3 sb.hidden-the_row-Case-0 denote.Hole.Carrier.hidden
word_in_default = conflicts _ _ _ _ refl refl refl

-- in a branch of an `if` that holds,
word_in_a_branch : Conflicts (core (reg 4 0 ∷ reg 4 0 ∷ ram 2 [] ∷ reg 4 1 ∷ chan ∷ array 2 [] ∷ []) (par (s.If here (e.Reg 3) tests_word s.Skip ∷ takes 1 (e.Word 2 (const 1 1)) ∷ []) ∷ [])) no_inputs 0 2
unfolding residual statement statements_in cases_in arms_in target expression eb.hidden-the_row-Expr-0 sb.hidden-the_row-Stmt-1 sb.hidden-the_row-Stmt-2 sb.hidden-the_row-Arm-3 sb.hidden-the_row-Case-0 denote.Hole.Carrier.hidden
word_in_a_branch = conflicts _ _ _ _ refl refl refl

-- in one of an `if` that doesn't,
word_in_else : Conflicts (core (reg 4 0 ∷ reg 4 0 ∷ ram 2 [] ∷ reg 4 1 ∷ chan ∷ array 2 [] ∷ []) (par (s.If here (e.Reg 0) s.Skip tests_word ∷ takes 1 (e.Word 2 (const 1 1)) ∷ []) ∷ [])) no_inputs 0 2
unfolding residual statement statements_in cases_in arms_in target expression eb.hidden-the_row-Expr-0 sb.hidden-the_row-Stmt-1 sb.hidden-the_row-Stmt-2 sb.hidden-the_row-Arm-3 sb.hidden-the_row-Case-0 denote.Hole.Carrier.hidden
word_in_else = conflicts _ _ _ _ refl refl refl

-- behind a statement that is passed,
word_behind : Conflicts (core (reg 4 0 ∷ reg 4 0 ∷ ram 2 [] ∷ reg 4 1 ∷ chan ∷ array 2 [] ∷ []) (par (seq ((s.If here (e.Reg 0) delay s.Skip) ∷ tests_word ∷ []) ∷ takes 1 (e.Word 2 (const 1 1)) ∷ []) ∷ [])) no_inputs 0 2
unfolding residual statement statements_in cases_in arms_in target expression eb.hidden-the_row-Expr-0 sb.hidden-the_row-Stmt-1 sb.hidden-the_row-Stmt-2 sb.hidden-the_row-Arm-3 sb.hidden-the_row-Case-0 denote.Hole.Carrier.hidden
word_behind = conflicts _ _ _ _ refl refl refl

-- and in a `par`
word_in_par : Conflicts (core (reg 4 0 ∷ reg 4 0 ∷ ram 2 [] ∷ reg 4 1 ∷ chan ∷ array 2 [] ∷ []) (par (par (tests_word ∷ []) ∷ takes 1 (e.Word 2 (const 1 1)) ∷ []) ∷ [])) no_inputs 0 2
unfolding residual statement statements_in cases_in arms_in target expression eb.hidden-the_row-Expr-0 sb.hidden-the_row-Stmt-1 sb.hidden-the_row-Stmt-2 sb.hidden-the_row-Arm-3 sb.hidden-the_row-Case-0 denote.Hole.Carrier.hidden
word_in_par = conflicts _ _ _ _ refl refl refl

-- an index of an array that is read or written accesses it,
word_in_index : Conflicts (core (reg 4 0 ∷ reg 4 0 ∷ ram 2 [] ∷ reg 4 1 ∷ chan ∷ array 2 [] ∷ []) (par (takes 0 (e.Element 5 (e.Slice (e.Word 2 (const 1 0)) 0 0)) ∷ takes 1 (e.Word 2 (const 1 1)) ∷ []) ∷ [])) no_inputs 0 2
unfolding residual statement statements_in cases_in arms_in target expression eb.hidden-the_row-Expr-0 sb.hidden-the_row-Stmt-1 sb.hidden-the_row-Stmt-2 sb.hidden-the_row-Arm-3 sb.hidden-the_row-Case-0 denote.Hole.Carrier.hidden
word_in_index = conflicts _ _ _ _ refl refl refl

word_in_target_index : Conflicts (core (reg 4 0 ∷ reg 4 0 ∷ ram 2 [] ∷ reg 4 1 ∷ chan ∷ array 2 [] ∷ []) (par (s.Assign here (t.Element 5 (e.Slice (e.Word 2 (const 1 0)) 0 0)) (const 4 1) ∷ takes 1 (e.Word 2 (const 1 1)) ∷ []) ∷ [])) no_inputs 0 2
unfolding residual statement statements_in cases_in arms_in target expression eb.hidden-the_row-Expr-0 sb.hidden-the_row-Stmt-1 sb.hidden-the_row-Stmt-2 sb.hidden-the_row-Arm-3 sb.hidden-the_row-Case-0 denote.Hole.Carrier.hidden
word_in_target_index = conflicts _ _ _ _ refl refl refl

-- a receive that waits, and a send
word_waiting_to_be_received : Conflicts (core (reg 4 0 ∷ reg 4 0 ∷ ram 2 [] ∷ reg 4 1 ∷ chan ∷ array 2 [] ∷ []) (par (s.Recv here 4 (t.Word 2 (const 1 0)) ∷ takes 1 (e.Word 2 (const 1 1)) ∷ []) ∷ [])) no_inputs 0 2
unfolding residual statement statements_in cases_in arms_in target expression eb.hidden-the_row-Expr-0 sb.hidden-the_row-Stmt-1 sb.hidden-the_row-Stmt-2 sb.hidden-the_row-Arm-3 sb.hidden-the_row-Case-0 denote.Hole.Carrier.hidden
word_waiting_to_be_received = conflicts _ _ _ _ refl refl refl

word_waiting_to_be_sent : Conflicts (core (reg 4 0 ∷ reg 4 0 ∷ ram 2 [] ∷ reg 4 1 ∷ chan ∷ array 2 [] ∷ []) (par (s.Send here 4 (e.Word 2 (const 1 0)) ∷ takes 1 (e.Word 2 (const 1 1)) ∷ []) ∷ [])) no_inputs 0 2
unfolding residual statement statements_in cases_in arms_in target expression eb.hidden-the_row-Expr-0 sb.hidden-the_row-Stmt-1 sb.hidden-the_row-Stmt-2 sb.hidden-the_row-Arm-3 sb.hidden-the_row-Case-0 denote.Hole.Carrier.hidden
word_waiting_to_be_sent = conflicts _ _ _ _ refl refl refl

-- `par { prialt { case c ! m[0]: break; } y = m[1]; }`: so does a case, which the rules refuse
word_in_a_case : Conflicts (core (reg 4 0 ∷ reg 4 0 ∷ ram 2 [] ∷ reg 4 1 ∷ chan ∷ array 2 [] ∷ []) (par (waits_for (c.Send 4 (e.Word 2 (const 1 0)) (seq [])) ∷ takes 1 (e.Word 2 (const 1 1)) ∷ []) ∷ [])) no_inputs 0 2
unfolding residual statement statements_in cases_in arms_in target expression eb.hidden-the_row-Expr-0 sb.hidden-the_row-Stmt-1 sb.hidden-the_row-Stmt-2 sb.hidden-the_row-Arm-3 sb.hidden-the_row-Case-0 denote.Hole.Carrier.hidden
word_in_a_case = conflicts _ _ _ _ refl refl refl

-- two numbers for a signal: it has their bitwise or
or_of_two : Shown (core (reg 4 0 ∷ sig 8 ∷ []) (par ((s.Assign here (t.Signal 1) (const 4 1)) ∷ (s.Assign here (t.Signal 1) (const 4 3)) ∷ (s.Assign here (t.Signal 1) (const 4 4)) ∷ []) ∷ [])) no_inputs (0 ∷ 7 ∷ [])
unfolding residual statement statements_in cases_in arms_in target expression eb.hidden-the_row-Expr-0 sb.hidden-the_row-Stmt-1 sb.hidden-the_row-Stmt-2 sb.hidden-the_row-Arm-3 sb.hidden-the_row-Case-0 denote.Hole.Carrier.hidden
or_of_two = is_shown _ _ _ refl refl
