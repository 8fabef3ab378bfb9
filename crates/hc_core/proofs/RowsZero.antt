-- Worked rows of what may take no clock, computed.
use Rattle.std.proofs.Common.{◌≡◌, ℕ, [], ◌∷◌, map, true, false, refl}
use Rattle.hc_tree.specs.declared.place.Place.{Place}
use Rattle.hc_core.specs.Program.{Expression, Constant, Register, ToRegister, Skip, Assign, Delay, Send, Receive, Prialt, PrialtElse, Seq, Par, If, While, DoWhile, Switch, stop, ◌⨾◌, no_case, send_case, no_arm, arm}
use Rattle.hc_core.specs.Zero.{zero}

abbrev here : Place
here = record { line = 1; column = 1 }

abbrev bit : ℕ → Expression
bit bits = Constant (record { width = 1; signed = false; bits = bits })

abbrev c : Expression
c = Register 0

-- statements that take a clock
actions : map zero (Delay here ∷ Assign here (ToRegister 0) c ∷ Send here 1 c ∷ Receive here 1 (ToRegister 0) ∷ []) ≡ false ∷ false ∷ false ∷ false ∷ []
actions = refl

-- all parts of a sequence and all branches of a `par` have to be zero, one side of an `if` is enough
parts : map zero (Skip ∷ Seq here stop ∷ Seq here (Skip ⨾ Delay here ⨾ stop) ∷ Par here (Skip ⨾ Skip ⨾ stop) ∷ Par here (Skip ⨾ Delay here ⨾ stop)
    ∷ If here c (Delay here) Skip ∷ If here c (Delay here) (Delay here) ∷ [])
    ≡ true ∷ true ∷ false ∷ true ∷ false ∷ true ∷ false ∷ []
parts = refl

-- a `while` is zero unless its condition always holds, a `do` where its body is
loops : map zero (While here c (Delay here) ∷ While here (bit 0) (Delay here) ∷ While here (bit 1) (Delay here) ∷ While here (bit 1) Skip
    ∷ DoWhile here (Delay here) c ∷ DoWhile here Skip (bit 1) ∷ [])
    ≡ true ∷ true ∷ false ∷ false ∷ false ∷ true ∷ []
loops = refl

-- a `switch` is zero with a zero arm or without a default, a `prialt` with a zero default
choices : map zero (Switch here c no_arm ∷ Switch here c (arm [] false (Delay here) no_arm) ∷ Switch here c (arm [] true (Delay here) no_arm)
    ∷ Switch here c (arm [] true (Delay here) (arm [] false Skip no_arm)) ∷ Prialt here (send_case 1 c Skip no_case)
    ∷ PrialtElse here (send_case 1 c (Delay here) no_case) Skip ∷ PrialtElse here (send_case 1 c Skip no_case) (Delay here) ∷ [])
    ≡ true ∷ true ∷ false ∷ true ∷ false ∷ true ∷ false ∷ []
choices = refl
