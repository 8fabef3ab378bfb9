-- How many gates and placeholders the control of a statement takes at most: the part of the statement's weight that isn't that
-- of its actions' values and targets.
use Rattle.std.specs.Prelude.{ℕ, ◌+◌, ◌*◌, List, length}
use Rattle.hc_core.specs.Program.{Statement, Skip, Assign, Delay, Send, Receive, Prialt, PrialtElse, Seq, Par, If, While, DoWhile, Switch, Statements, stop, ◌⨾◌, Arms, no_arm, arm}
use Rattle.hc_core.specs.Typed.{width_of}
use Rattle.hc_core.specs.Weight.{condition_weight, expression_weight}
use Rattle.hc_core.specs.declared.object.Kind.{Kind}

abbrev mutual
  -- The gates and placeholders: 40 for a statement, as in its weight, but 8 for an action, whose target has the others.
  pub control_weight : List Kind → Statement → ℕ
  control_weight kinds Skip = 0
  control_weight kinds (Assign place t e) = 8
  control_weight kinds (Delay place) = 8
  control_weight kinds (Send place chan e) = 0
  control_weight kinds (Receive place chan t) = 0
  control_weight kinds (Prialt place cases) = 0
  control_weight kinds (PrialtElse place cases rest) = 0
  control_weight kinds (Seq place parts) = 40 + parts_control kinds 8 parts
  control_weight kinds (Par place branches) = 40 + parts_control kinds 16 branches
  control_weight kinds (If place c a b) = 40 + condition_weight kinds c + control_weight kinds a + control_weight kinds b
  control_weight kinds (While place c body) = 40 + condition_weight kinds c + control_weight kinds body
  control_weight kinds (DoWhile place body c) = 40 + condition_weight kinds c + control_weight kinds body
  control_weight kinds (Switch place e arms) = 40 + expression_weight kinds e + arms_control kinds (2 * width_of kinds e + 8) arms

  -- those of the statements of a list, with so much for each of them
  pub parts_control : List Kind → ℕ → Statements → ℕ
  parts_control kinds each stop = 0
  parts_control kinds each (first ⨾ rest) = each + control_weight kinds first + parts_control kinds each rest

  -- those of arms, with so much for each value of a label
  pub arms_control : List Kind → ℕ → Arms → ℕ
  arms_control kinds label no_arm = 0
  arms_control kinds label (arm values other body rest) = label * length values + 16 + control_weight kinds body + arms_control kinds label rest
