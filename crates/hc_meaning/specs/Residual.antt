-- What is left of a program at an edge: statements without places, whose actions, `prialt` cases and conditions have their
-- numbers in text order, and whose sequences are read from the left, two at a time.
use Rattle.std.specs.Prelude.{ℕ, ◌+◌, List, Bool}
use Rattle.hc_num.specs.Number.{Number}
use Rattle.hc_core.specs.Program as p
use Rattle.hc_core.specs.Program.{Expression, Target}

-- what is done in a clock
pub data Action : Type 0 where
  Assign : Target → Expression → Action
  Delay : Action
  Send : ℕ → Expression → Action
  Receive : ℕ → Target → Action

-- what a case offers: a channel with a value, or with a target
pub data Offer : Type 0 where
  Sends : ℕ → Expression → Offer
  Receives : ℕ → Target → Offer

infixr 40 ◌∥◌
mutual
  -- `Then a b` goes on with b after a; a condition and an action stand behind their number.
  pub data Residual : Type 0 where
    Skip : Residual
    Act : ℕ → Action → Residual
    Prialt : ℕ → Cases → Residual
    PrialtElse : ℕ → Cases → Residual → Residual
    Then : Residual → Residual → Residual
    Par : Branches → Residual
    If : ℕ → Expression → Residual → Residual → Residual
    While : ℕ → Expression → Residual → Residual
    DoWhile : Residual → ℕ → Expression → Residual
    Switch : ℕ → Expression → Arms → Residual

  pub data Branches : Type 0 where
    ended : Branches
    ◌∥◌ : Residual → Branches → Branches

  -- the number, the offer and the arm of the first case, and the others
  pub data Cases : Type 0 where
    no_case : Cases
    case_of : ℕ → Offer → Residual → Cases → Cases

  -- the values of the first arm, whether it has the label `default`, its body, and the others
  pub data Arms : Type 0 where
    no_arm : Arms
    arm : List Number → Bool → Residual → Arms → Arms

-- a part of a program, and the number behind those within it
abbrev pub Numbered : Type 0 → Type 0
Numbered A = ℕ → A × ℕ

-- the part that follows, numbered from there on
infixl 10 ◌>>=◌
abbrev pub ◌>>=◌ : {A B : Type 0} → Numbered A → (A → Numbered B) → Numbered B
p >>= next = λ n. next (p n).0 (p n).1

-- a part without numbers
abbrev pub pure : {A : Type 0} → A → Numbered A
pure a = λ n. (a, n)

-- the next number
abbrev pub counted : Numbered ℕ
counted = λ n. (n, n + 1)

unfoldable mutual
  -- all of a statement is left
  pub residual : p.Statement → Numbered Residual
  residual p.Skip = pure Skip
  residual (p.Assign place t e) = counted >>= (λ n. pure (Act n (Assign t e)))
  residual (p.Delay place) = counted >>= (λ n. pure (Act n Delay))
  residual (p.Send place chan e) = counted >>= (λ n. pure (Act n (Send chan e)))
  residual (p.Receive place chan t) = counted >>= (λ n. pure (Act n (Receive chan t)))
  residual (p.Prialt place cases) = do
    n ← counted
    all ← cases_left cases
    pure (Prialt n all)
  residual (p.PrialtElse place cases rest) = do
    n ← counted
    all ← cases_left cases
    other ← residual rest
    pure (PrialtElse n all other)
  residual (p.Seq place parts) = sequence parts
  residual (p.Par place branches) = branches_left branches >>= (λ all. pure (Par all))
  residual (p.If place c a b) = do
    n ← counted
    x ← residual a
    y ← residual b
    pure (If n c x y)
  residual (p.While place c body) = do
    n ← counted
    x ← residual body
    pure (While n c x)
  residual (p.DoWhile place body c) = do
    x ← residual body
    n ← counted
    pure (DoWhile x n c)
  residual (p.Switch place e arms) = do
    n ← counted
    all ← arms_left arms
    pure (Switch n e all)

  pub sequence : p.Statements → Numbered Residual
  sequence p.stop = pure Skip
  sequence (p.◌⨾◌ first rest) = residual first >>= (λ x. sequence_behind x rest)

  pub sequence_behind : Residual → p.Statements → Numbered Residual
  sequence_behind done p.stop = pure done
  sequence_behind done (p.◌⨾◌ next rest) = residual next >>= (λ x. sequence_behind (Then done x) rest)

  pub branches_left : p.Statements → Numbered Branches
  branches_left p.stop = pure ended
  branches_left (p.◌⨾◌ first rest) = do
    x ← residual first
    more ← branches_left rest
    pure (x ∥ more)

  pub cases_left : p.Cases → Numbered Cases
  cases_left p.no_case = pure no_case
  cases_left (p.send_case chan e first rest) = do
    n ← counted
    x ← residual first
    more ← cases_left rest
    pure (case_of n (Sends chan e) x more)
  cases_left (p.receive_case chan t first rest) = do
    n ← counted
    x ← residual first
    more ← cases_left rest
    pure (case_of n (Receives chan t) x more)

  pub arms_left : p.Arms → Numbered Arms
  arms_left p.no_arm = pure no_arm
  arms_left (p.arm values other body rest) = do
    x ← residual body
    more ← arms_left rest
    pure (arm values other x more)
