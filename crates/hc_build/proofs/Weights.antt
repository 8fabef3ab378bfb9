-- What the statements of a program and its objects weigh, and that a core within its weight has room among the nets.
use Rattle.std.proofs.Common.{◌≡◌, ◌≤◌, ℕ, ◌+◌, ◌*◌, List, ◌∷◌, [], arith}
use Rattle.std.specs.List.{sum_by}
use Rattle.std.proofs.lemmas.List.Sums.{sum_by-cons, sum_by-append, sum_by-le-sum_by}
use Rattle.hc_core.specs.Program as p
use Rattle.hc_core.specs.Program.{ToRegister, ToElement, ToWord, ToSignal, Target, Statement, Statements, stop, ◌⨾◌, Cases, no_case, send_case, receive_case, Arms, no_arm, arm}
use Rattle.hc_core.specs.Typed.{width_of}
use Rattle.hc_core.specs.Weight.{kind_weight, statement_weight, list_weight, cases_weight, arms_weight, statement_flops, list_flops, cases_flops, arms_flops, target_weight}
use Rattle.hc_core.specs.declared.object.Kind.{Kind}
use Rattle.hc_core.specs.declared.object.Kind.TheVariants as kind
use Rattle.hc_meaning.specs.Residual.{Action, Assign, Delay, Send, Receive}
use Rattle.hc_control.specs.Listing.{actions_in, actions_in_all, actions_in_arms}
use Rattle.hc_control.specs.Right.{net_count}
use Rattle.hc_control.specs.Uses.{action_gates, index_weight}
use Rattle.hc_control.specs.Weighs.{control_weight, parts_control, arms_control}
use Rattle.hc_build.specs.Sources.{output_gates}
use Rattle.hc_build.specs.Uses.{action_weight, next_weight}

-- ---- statements

mutual
  -- the control of a statement and its actions weigh no more than it does
  pub statement_weighs : (kinds : List Kind) (s : Statement) → control_weight kinds s + sum_by (action_weight kinds) (actions_in s) ≤ statement_weight kinds s
  statement_weighs kinds p.Skip = omega arith
  statement_weighs kinds (p.Assign place t e) = omega (arith, sum_by-cons (action_weight kinds) (Assign t e) [])
  statement_weighs kinds (p.Delay place) = omega (arith, sum_by-cons (action_weight kinds) Delay [])
  statement_weighs kinds (p.Send place chan e) = omega arith
  statement_weighs kinds (p.Receive place chan t) = omega arith
  statement_weighs kinds (p.Prialt place cases) = omega arith
  statement_weighs kinds (p.PrialtElse place cases rest) = omega arith
  statement_weighs kinds (p.Seq place parts) = let all = all_weigh kinds 8 parts in omega arith
  statement_weighs kinds (p.Par place branches) = let all = all_weigh kinds 16 branches in omega arith
  statement_weighs kinds (p.If place c a b) =
      let first = statement_weighs kinds a in
      let second = statement_weighs kinds b in
      let both = sum_by-append (action_weight kinds) (actions_in a) (actions_in b) in
      omega arith
  statement_weighs kinds (p.While place c body) = let within = statement_weighs kinds body in omega arith
  statement_weighs kinds (p.DoWhile place body c) = let within = statement_weighs kinds body in omega arith
  statement_weighs kinds (p.Switch place e arms) = let all = arms_weigh kinds (2 * width_of kinds e + 8) arms in omega arith

  all_weigh : (kinds : List Kind) (each : ℕ) (parts : Statements) → parts_control kinds each parts + sum_by (action_weight kinds) (actions_in_all parts) ≤ list_weight kinds each parts
  all_weigh kinds each stop = omega arith
  all_weigh kinds each (first ⨾ rest) =
      let here = statement_weighs kinds first in
      let others = all_weigh kinds each rest in
      let both = sum_by-append (action_weight kinds) (actions_in first) (actions_in_all rest) in
      omega arith

  arms_weigh : (kinds : List Kind) (label : ℕ) (arms : Arms) → arms_control kinds label arms + sum_by (action_weight kinds) (actions_in_arms arms) ≤ arms_weight kinds label arms
  arms_weigh kinds label no_arm = omega arith
  arms_weigh kinds label (arm values other body rest) =
      let here = statement_weighs kinds body in
      let others = arms_weigh kinds label rest in
      let both = sum_by-append (action_weight kinds) (actions_in body) (actions_in_arms rest) in
      omega arith

mutual
  -- and it has no more flip-flops than it weighs
  pub flops_light : (kinds : List Kind) (s : Statement) → statement_flops s ≤ statement_weight kinds s
  flops_light kinds p.Skip = omega arith
  flops_light kinds (p.Assign place t e) = omega arith
  flops_light kinds (p.Delay place) = omega arith
  flops_light kinds (p.Send place chan e) = omega arith
  flops_light kinds (p.Receive place chan t) = omega arith
  flops_light kinds (p.Prialt place cases) = let all = cases_light kinds cases in omega arith
  flops_light kinds (p.PrialtElse place cases rest) = let all = cases_light kinds cases in let other = flops_light kinds rest in omega arith
  flops_light kinds (p.Seq place parts) = let all = list_light kinds 0 8 parts (omega arith) in omega arith
  flops_light kinds (p.Par place branches) = let all = list_light kinds 1 16 branches (omega arith) in omega arith
  flops_light kinds (p.If place c a b) = let first = flops_light kinds a in let second = flops_light kinds b in omega arith
  flops_light kinds (p.While place c body) = let within = flops_light kinds body in omega arith
  flops_light kinds (p.DoWhile place body c) = let within = flops_light kinds body in omega arith
  flops_light kinds (p.Switch place e arms) = let all = arms_light kinds (2 * width_of kinds e + 8) arms in omega arith

  list_light : (kinds : List Kind) (flops weight : ℕ) (parts : Statements) → flops ≤ weight → list_flops flops parts ≤ list_weight kinds weight parts
  list_light kinds flops weight stop le = omega arith
  list_light kinds flops weight (first ⨾ rest) le = let here = flops_light kinds first in let others = list_light kinds flops weight rest le in omega arith

  cases_light : (kinds : List Kind) (cases : Cases) → cases_flops cases ≤ cases_weight kinds cases
  cases_light kinds no_case = omega arith
  cases_light kinds (send_case chan e first rest) = let here = flops_light kinds first in let others = cases_light kinds rest in omega arith
  cases_light kinds (receive_case chan t first rest) = let here = flops_light kinds first in let others = cases_light kinds rest in omega arith

  arms_light : (kinds : List Kind) (label : ℕ) (arms : Arms) → arms_flops arms ≤ arms_weight kinds label arms
  arms_light kinds label no_arm = omega arith
  arms_light kinds label (arm values other body rest) = let here = flops_light kinds body in let others = arms_light kinds label rest in omega arith

-- ---- actions

-- an index weighs no more than its target
index_light : (kinds : List Kind) (t : Target) → index_weight kinds t ≤ target_weight kinds t
index_light kinds (ToRegister k) = omega arith
index_light kinds (ToElement k i) = omega arith
index_light kinds (ToWord k i) = omega arith
index_light kinds (ToSignal k) = omega arith

action_light : (kinds : List Kind) (a : Action) → action_gates kinds a ≤ action_weight kinds a
action_light kinds (Assign t e) = let index = index_light kinds t in omega arith
action_light kinds Delay = omega arith
action_light kinds (Send chan e) = omega arith
action_light kinds (Receive chan t) = omega arith

-- the gates for the values and the indexes of actions
pub actions_light : (kinds : List Kind) (actions : List Action) → sum_by (action_gates kinds) actions ≤ sum_by (action_weight kinds) actions
actions_light kinds actions = sum_by-le-sum_by (action_gates kinds) (action_weight kinds) actions (action_light kinds)

-- ---- objects

nets_light : (kinds : List Kind) (x : Kind) → net_count x ≤ kind_weight kinds x
nets_light kinds (kind.Reg w s init) = omega arith
nets_light kinds (kind.Array w s n init) = let product : n * (2 * w + 4) ≡ n * w + n * w + 4 * n = omega arith in omega arith
nets_light kinds (kind.Ram w s n init) = omega arith
nets_light kinds (kind.Rom w s n init) = omega arith
nets_light kinds (kind.Signal w s unset) = omega arith
nets_light kinds (kind.Chan w s queue) = omega arith
nets_light kinds (kind.Input w s pins) = omega arith
nets_light kinds (kind.Output w s pins value) = omega arith

pub all_nets_light : (kinds some : List Kind) → sum_by net_count some ≤ sum_by (kind_weight kinds) some
all_nets_light kinds some = sum_by-le-sum_by net_count (kind_weight kinds) some (nets_light kinds)

next_light : (kinds : List Kind) (x : Kind) → next_weight x + output_gates kinds x ≤ kind_weight kinds x
next_light kinds (kind.Reg w s init) = omega arith
next_light kinds (kind.Array w s n init) = omega arith
next_light kinds (kind.Ram w s n init) = omega arith
next_light kinds (kind.Rom w s n init) = omega arith
next_light kinds (kind.Signal w s unset) = omega arith
next_light kinds (kind.Chan w s queue) = omega arith
next_light kinds (kind.Input w s pins) = omega arith
next_light kinds (kind.Output w s pins value) = omega arith

-- what the objects read takes no more gates than they weigh
pub all_next_light : (kinds some : List Kind) → sum_by next_weight some + sum_by (output_gates kinds) some ≤ sum_by (kind_weight kinds) some
all_next_light kinds [] = omega arith
all_next_light kinds (x ∷ rest) =
    let first = next_light kinds x in
    let others = all_next_light kinds rest in
    omega (arith, sum_by-cons next_weight x rest, sum_by-cons (output_gates kinds) x rest, sum_by-cons (kind_weight kinds) x rest)
