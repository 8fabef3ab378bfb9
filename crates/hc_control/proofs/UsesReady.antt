-- The actions of a statement of built forms are built, and their gates are the part of the statement's weight that its control
-- leaves.
use Rattle.std.proofs.Common.{◌≡◌, ◌≤◌, ℕ, ◌+◌, ◌*◌, List, [], Bool, None, arith}
use Rattle.std.specs.Prelude.{◌&&◌, All}
use Rattle.std.specs.List.{sum_by}
use Rattle.std.proofs.lemmas.Bool.{and_parts}
use Rattle.std.proofs.lemmas.List.Elements.{All-nil, All-cons, All-append}
use Rattle.std.proofs.lemmas.List.Sums.{sum_by-cons, sum_by-append}
use Rattle.hc_core.specs.FirstPlace.{first_of}
use Rattle.hc_core.specs.Program as p
use Rattle.hc_core.specs.Program.{Statement, Statements, stop, ◌⨾◌, Arms, no_arm, arm, Target, ToRegister, ToElement, ToWord, ToSignal}
use Rattle.hc_core.specs.Sound.{IsTyped, AllTyped, ArmsTyped}
use Rattle.hc_core.specs.Typed.{width_of}
use Rattle.hc_core.specs.Weight.{statement_weight, list_weight, arms_weight, target_weight}
use Rattle.hc_core.specs.declared.object.Kind.{Kind}
use Rattle.hc_meaning.specs.Residual.{Assign, Delay}
use Rattle.hc_control.specs.Built.{is_built_target, is_built_expression, unbuilt_statement, unbuilt_parts, unbuilt_arms}
use Rattle.hc_control.specs.Listing.{actions_in, actions_in_all, actions_in_arms}
use Rattle.hc_control.specs.Uses.{IsBuiltAction, index_weight, action_gates}
use Rattle.hc_control.specs.Weighs.{control_weight, parts_control, arms_control}
use Rattle.hc_control.proofs.NoneFound.{none_first, none_within, built_here, not_none}

-- ---- actions are built

mutual
  pub built_actions : (kinds : List Kind) (s : Statement) → unbuilt_statement s ≡ None → IsTyped kinds s → All (IsBuiltAction kinds) (actions_in s)
  built_actions kinds p.Skip h typed = All-nil (IsBuiltAction kinds)
  built_actions kinds (p.Assign place t e) h typed =
      let both = and_parts (is_built_target t) (is_built_expression e) (built_here (is_built_target t && is_built_expression e) place None h).0 in
      All-cons (IsBuiltAction kinds) (Assign t e) [] (typed, both.0, both.1) (All-nil (IsBuiltAction kinds))
  built_actions kinds (p.Delay place) h typed = All-cons (IsBuiltAction kinds) Delay [] tt (All-nil (IsBuiltAction kinds))
  built_actions kinds (p.Seq place parts) h typed = built_in_all kinds parts h typed
  built_actions kinds (p.Send place chan e) h typed = absurd (not_none _ h)
  built_actions kinds (p.Receive place chan t) h typed = absurd (not_none _ h)
  built_actions kinds (p.Prialt place cases) h typed = absurd (not_none _ h)
  built_actions kinds (p.PrialtElse place cases rest) h typed = absurd (not_none _ h)
  built_actions kinds (p.Par place branches) h typed = built_in_all kinds branches h typed
  built_actions kinds (p.If place c a b) h typed =
      let both = none_first (unbuilt_statement a) (unbuilt_statement b) (none_within (is_built_expression c) place (first_of (unbuilt_statement a) (unbuilt_statement b)) h) in
      All-append (IsBuiltAction kinds) (actions_in a) (actions_in b) (built_actions kinds a both.0 typed.1) (built_actions kinds b both.1 typed.2)
  built_actions kinds (p.While place c body) h typed = built_actions kinds body (none_within (is_built_expression c) place (unbuilt_statement body) h) typed.1
  built_actions kinds (p.DoWhile place body c) h typed = built_actions kinds body (none_within (is_built_expression c) place (unbuilt_statement body) h) typed.1
  built_actions kinds (p.Switch place e arms) h typed =
      built_in_arms kinds typed.0 typed.1 arms (none_within (is_built_expression e) place (unbuilt_arms arms) h) typed.3

  built_in_all : (kinds : List Kind) (parts : Statements) → unbuilt_parts parts ≡ None → AllTyped kinds parts → All (IsBuiltAction kinds) (actions_in_all parts)
  built_in_all kinds stop h typed = All-nil (IsBuiltAction kinds)
  built_in_all kinds (first ⨾ rest) h typed =
      let both = none_first (unbuilt_statement first) (unbuilt_parts rest) h in
      All-append (IsBuiltAction kinds) (actions_in first) (actions_in_all rest) (built_actions kinds first both.0 typed.0) (built_in_all kinds rest both.1 typed.1)

  built_in_arms : (kinds : List Kind) (w : ℕ) (s : Bool) (arms : Arms) → unbuilt_arms arms ≡ None → ArmsTyped kinds w s arms → All (IsBuiltAction kinds) (actions_in_arms arms)
  built_in_arms kinds w s no_arm h typed = All-nil (IsBuiltAction kinds)
  built_in_arms kinds w s (arm values other body rest) h typed =
      let both = none_first (unbuilt_statement body) (unbuilt_arms rest) h in
      All-append (IsBuiltAction kinds) (actions_in body) (actions_in_arms rest) (built_actions kinds body both.0 typed.1) (built_in_arms kinds w s rest both.1 typed.2)

-- ---- their gates

-- an index weighs no more than its target
index_light : (kinds : List Kind) (t : Target) → index_weight kinds t ≤ target_weight kinds t
index_light kinds (ToRegister k) = omega arith
index_light kinds (ToElement k i) = omega arith
index_light kinds (ToWord k i) = omega arith
index_light kinds (ToSignal k) = omega arith

mutual
  -- the gates of control with those of the values and the indexes of actions
  pub actions_weigh : (kinds : List Kind) (s : Statement) → control_weight kinds s + sum_by (action_gates kinds) (actions_in s) ≤ statement_weight kinds s
  actions_weigh kinds p.Skip = omega arith
  actions_weigh kinds (p.Assign place t e) = let index = index_light kinds t in omega (arith, index, sum_by-cons (action_gates kinds) (Assign t e) [])
  actions_weigh kinds (p.Delay place) = omega (arith, sum_by-cons (action_gates kinds) Delay [])
  actions_weigh kinds (p.Send place chan e) = omega arith
  actions_weigh kinds (p.Receive place chan t) = omega arith
  actions_weigh kinds (p.Prialt place cases) = omega arith
  actions_weigh kinds (p.PrialtElse place cases rest) = omega arith
  actions_weigh kinds (p.Seq place parts) = let all = all_weigh kinds 8 parts in omega arith
  actions_weigh kinds (p.Par place branches) = let all = all_weigh kinds 16 branches in omega arith
  actions_weigh kinds (p.If place c a b) =
      let first = actions_weigh kinds a in
      let second = actions_weigh kinds b in
      let both = sum_by-append (action_gates kinds) (actions_in a) (actions_in b) in
      omega arith
  actions_weigh kinds (p.While place c body) = let within = actions_weigh kinds body in omega arith
  actions_weigh kinds (p.DoWhile place body c) = let within = actions_weigh kinds body in omega arith
  actions_weigh kinds (p.Switch place e arms) = let all = arms_weigh kinds (2 * width_of kinds e + 8) arms in omega arith

  all_weigh : (kinds : List Kind) (each : ℕ) (parts : Statements) → parts_control kinds each parts + sum_by (action_gates kinds) (actions_in_all parts) ≤ list_weight kinds each parts
  all_weigh kinds each stop = omega arith
  all_weigh kinds each (first ⨾ rest) =
      let here = actions_weigh kinds first in
      let others = all_weigh kinds each rest in
      let both = sum_by-append (action_gates kinds) (actions_in first) (actions_in_all rest) in
      omega arith

  arms_weigh : (kinds : List Kind) (label : ℕ) (arms : Arms) → arms_control kinds label arms + sum_by (action_gates kinds) (actions_in_arms arms) ≤ arms_weight kinds label arms
  arms_weigh kinds label no_arm = omega arith
  arms_weigh kinds label (arm values other body rest) =
      let here = actions_weigh kinds body in
      let others = arms_weigh kinds label rest in
      let both = sum_by-append (action_gates kinds) (actions_in body) (actions_in_arms rest) in
      omega arith
