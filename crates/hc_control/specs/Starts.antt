-- The actions of a statement in text order, and those whose starts hold.
use Rattle.std.specs.Prelude.{List, [], ◌∷◌, ◌++◌, Bool, true, false}
use Rattle.hc_meaning.specs.Residual.{Residual, Skip, Act, Prialt, PrialtElse, Then, Par, If, While, DoWhile, Switch, Branches, ended, ◌∥◌, Cases, no_case, case_of, Arms, no_arm, arm}
use Rattle.hc_meaning.specs.Control.{Leaf, does, chooses_from}

abbrev mutual
  -- those of a statement
  pub leaves : Residual → List Leaf
  leaves Skip = []
  leaves (Act n a) = does n a ∷ []
  leaves (Prialt n cases) = chooses_from n cases ∷ leaves_of_cases cases
  leaves (PrialtElse n cases other) = chooses_from n cases ∷ (leaves_of_cases cases ++ leaves other)
  leaves (Then a b) = leaves a ++ leaves b
  leaves (Par branches) = leaves_of_branches branches
  leaves (If n c a b) = leaves a ++ leaves b
  leaves (While n c body) = leaves body
  leaves (DoWhile body n c) = leaves body
  leaves (Switch n e arms) = leaves_of_arms arms

  pub leaves_of_branches : Branches → List Leaf
  leaves_of_branches ended = []
  leaves_of_branches (first ∥ rest) = leaves first ++ leaves_of_branches rest

  pub leaves_of_cases : Cases → List Leaf
  leaves_of_cases no_case = []
  leaves_of_cases (case_of n offer body rest) = leaves body ++ leaves_of_cases rest

  pub leaves_of_arms : Arms → List Leaf
  leaves_of_arms no_arm = []
  leaves_of_arms (arm values other body rest) = leaves body ++ leaves_of_arms rest

-- those of a list that have a 1 in their place in another
abbrev pub selected : List Bool → List Leaf → List Leaf
selected [] actions = []
selected (x ∷ xs) [] = []
selected (true ∷ xs) (a ∷ rest) = a ∷ selected xs rest
selected (false ∷ xs) (a ∷ rest) = selected xs rest
