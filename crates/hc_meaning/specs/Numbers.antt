-- The numbers of the actions, cases and conditions of what is left, in text order.
use Rattle.std.specs.Prelude.{ℕ, zero, suc, ◌+◌, List, [], ◌∷◌, ◌++◌}
use Rattle.hc_meaning.specs.Residual.{Residual, Skip, Act, Prialt, PrialtElse, Then, Par, If, While, DoWhile, Switch, Branches, ended, ◌∥◌, Cases, no_case, case_of, Arms, no_arm, arm}

abbrev mutual
  -- a `prialt` before its cases, a case before its arm, a condition where it is evaluated
  pub numbers : Residual → List ℕ
  numbers Skip = []
  numbers (Act n a) = n ∷ []
  numbers (Prialt n cases) = n ∷ case_numbers cases
  numbers (PrialtElse n cases other) = n ∷ (case_numbers cases ++ numbers other)
  numbers (Then a b) = numbers a ++ numbers b
  numbers (Par branches) = all_numbers branches
  numbers (If n c a b) = n ∷ (numbers a ++ numbers b)
  numbers (While n c body) = n ∷ numbers body
  numbers (DoWhile body n c) = numbers body ++ (n ∷ [])
  numbers (Switch n e arms) = n ∷ arm_numbers arms

  pub all_numbers : Branches → List ℕ
  all_numbers ended = []
  all_numbers (first ∥ rest) = numbers first ++ all_numbers rest

  pub case_numbers : Cases → List ℕ
  case_numbers no_case = []
  case_numbers (case_of n offer body rest) = n ∷ (numbers body ++ case_numbers rest)

  pub arm_numbers : Arms → List ℕ
  arm_numbers no_arm = []
  arm_numbers (arm values other body rest) = numbers body ++ arm_numbers rest

-- so many numbers from k on
abbrev pub numbered : ℕ → ℕ → List ℕ
numbered k zero = []
numbered k (suc n) = k ∷ numbered (k + 1) n
