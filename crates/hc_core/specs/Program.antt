-- The core program as plain data. Definitions over programs go by the clauses of these types; `Read` gives the one of a
-- core.
use Rattle.std.specs.Prelude.{ℕ, List, Bool}
use Rattle.hc_num.specs.Number.{Number}
use Rattle.hc_tree.specs.declared.place.Place.{Place}
use Rattle.hc_core.specs.declared.expr.UnOp.{UnOp}
use Rattle.hc_core.specs.declared.expr.BinOp.{BinOp}

-- An expression. Objects are named by their numbers; a slice has its high bit first.
pub data Expression : Type 0 where
  Constant : Number → Expression
  Register : ℕ → Expression
  Element : ℕ → Expression → Expression
  Word : ℕ → Expression → Expression
  Signal : ℕ → Expression
  Input : ℕ → Expression
  Unary : UnOp → Expression → Expression
  Binary : BinOp → Expression → Expression → Expression
  Slice : Expression → ℕ → ℕ → Expression
  Choice : Expression → Expression → Expression → Expression

-- what an assignment or a receive writes
pub data Target : Type 0 where
  ToRegister : ℕ → Target
  ToElement : ℕ → Expression → Target
  ToWord : ℕ → Expression → Target
  ToSignal : ℕ → Target

infixr 40 ◌⨾◌
mutual
  -- A statement, with the place of its first token.
  pub data Statement : Type 0 where
    Skip : Statement
    Assign : Place → Target → Expression → Statement
    Delay : Place → Statement
    Send : Place → ℕ → Expression → Statement
    Receive : Place → ℕ → Target → Statement
    Prialt : Place → Cases → Statement
    PrialtElse : Place → Cases → Statement → Statement
    Seq : Place → Statements → Statement
    Par : Place → Statements → Statement
    If : Place → Expression → Statement → Statement → Statement
    While : Place → Expression → Statement → Statement
    DoWhile : Place → Statement → Expression → Statement
    Switch : Place → Expression → Arms → Statement

  -- statements in text order
  pub data Statements : Type 0 where
    stop : Statements
    ◌⨾◌ : Statement → Statements → Statements

  -- The cases of a `prialt` in text order: the channel, the value or the target, and the arm of the first one, and the others.
  pub data Cases : Type 0 where
    no_case : Cases
    send_case : ℕ → Expression → Statement → Cases → Cases
    receive_case : ℕ → Target → Statement → Cases → Cases

  -- The arms of a `switch` in text order: the values of the first one, whether it has the label `default`, its body, and
  -- the others.
  pub data Arms : Type 0 where
    no_arm : Arms
    arm : List Number → Bool → Statement → Arms → Arms
