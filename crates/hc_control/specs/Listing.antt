-- The actions of a statement without channels, in text order.
use Rattle.std.specs.Prelude.{◌≡◌, List, [], ◌∷◌, ◌++◌, map, All}
use Rattle.hc_core.specs.Program as p
use Rattle.hc_core.specs.Program.{Statement, Statements, stop, ◌⨾◌, Arms, no_arm, arm}
use Rattle.hc_core.specs.Read.{expression, target, statement}
use Rattle.hc_core.specs.declared.stmt.Stmt.{Stmt}
use Rattle.hc_core.specs.declared.stmt.Stmt.TheVariants as s
use Rattle.hc_meaning.specs.Control.{Leaf, does, chooses_from}
use Rattle.hc_meaning.specs.Residual.{Action, Assign, Delay}

-- those of a statement of built forms
abbrev mutual
  pub actions_in : Statement → List Action
  actions_in p.Skip = []
  actions_in (p.Assign place t e) = Assign t e ∷ []
  actions_in (p.Delay place) = Delay ∷ []
  actions_in (p.Send place chan e) = []
  actions_in (p.Receive place chan t) = []
  actions_in (p.Prialt place cases) = []
  actions_in (p.PrialtElse place cases rest) = []
  actions_in (p.Seq place parts) = actions_in_all parts
  actions_in (p.Par place branches) = actions_in_all branches
  actions_in (p.If place c a b) = actions_in a ++ actions_in b
  actions_in (p.While place c body) = actions_in body
  actions_in (p.DoWhile place body c) = actions_in body
  actions_in (p.Switch place e arms) = actions_in_arms arms

  pub actions_in_all : Statements → List Action
  actions_in_all stop = []
  actions_in_all (first ⨾ rest) = actions_in first ++ actions_in_all rest

  pub actions_in_arms : Arms → List Action
  actions_in_arms no_arm = []
  actions_in_arms (arm values other body rest) = actions_in body ++ actions_in_arms rest

-- an assignment or a delay
abbrev pub IsAction : Stmt → Type 0
IsAction (s.Assign place to value) = Unit {0}
IsAction (s.Delay place) = Unit {0}
IsAction _ = ⊥

-- the action that such a statement is; any other one has none, and stands as a delay
abbrev pub action_of : Stmt → Action
action_of (s.Assign place to value) = Assign (target to) (expression value)
action_of (s.Delay place) = Delay
action_of _ = Delay

-- the action of a part of what is left that is done in a clock; a `prialt` has none, and stands as a delay
abbrev pub leaf_action : Leaf → Action
leaf_action (does n a) = a
leaf_action (chooses_from n cases) = Delay

-- These actions were put behind those of a list.
pub record Gathers (added : List Action) (old new : List Stmt) : Type 0 where
  pub behind : map action_of new ≡ map action_of old ++ added
  pub each : All IsAction old → All IsAction new

-- The list has the actions of a statement, in text order.
pub record AreActions (main : Stmt) (all : List Stmt) : Type 0 where
  pub actions : map action_of all ≡ actions_in (statement main)
  pub each : All IsAction all
