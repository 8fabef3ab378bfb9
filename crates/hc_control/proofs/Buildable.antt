-- What holds of a statement by itself where its control can be built, and how that goes over to its parts.
use Rattle.std.proofs.Common.{◌≡◌, ◌<◌, ℕ, ◌+◌, ◌^◌, List, length, Bool, true, None}
use Rattle.hc_tree.specs.declared.place.Place.{Place}
use Rattle.hc_num.specs.Number.{Number}
use Rattle.hc_core.specs.FirstPlace.{first_where, first_in_arms}
use Rattle.hc_core.specs.Rules.{endless, repeats_label}
use Rattle.hc_core.specs.Program.{Expression, Statement, If, While, DoWhile, Switch, Arms, arm}
use Rattle.hc_core.specs.Sound.{IsTyped, ArmsTyped}
use Rattle.hc_core.specs.Weight.{statement_flops}
use Rattle.hc_core.specs.declared.object.Kind.{Kind}
use Rattle.hc_net.specs.Circuit.{Circuit}
use Rattle.hc_value.specs.declared.objects.ObjectNets.{ObjectNets}
use Rattle.hc_control.specs.Built.{is_built_expression, unbuilt_statement, unbuilt_arms}
use Rattle.hc_control.specs.Building.{CanBuild}
use Rattle.hc_control.specs.Right.{CanRead}
use Rattle.hc_control.specs.Weighs.{control_weight}
use Rattle.hc_control.proofs.NoneFound.{none_first, none_here, built_here}

-- ---- statements and arms that can be built

-- what `CanBuild` says of the statement alone
pub record IsBuildable (kinds : List Kind) (s : Statement) : Type 0 where
  pub typed : IsTyped kinds s
  pub built : unbuilt_statement s ≡ None
  pub loops : first_where endless s ≡ None
  pub labels : first_where repeats_label s ≡ None

pub record ArmsBuildable (kinds : List Kind) (w : ℕ) (s : Bool) (arms : Arms) : Type 0 where
  pub typed : ArmsTyped kinds w s arms
  pub built : unbuilt_arms arms ≡ None
  pub loops : first_in_arms endless arms ≡ None
  pub labels : first_in_arms repeats_label arms ≡ None

pub buildable : {kinds : List Kind} {at : ObjectNets} {s : Statement} {start token : ℕ} {c : Circuit} → CanBuild kinds at s start token c → IsBuildable kinds s
buildable can = record { typed = can.typed; built = can.built; loops = can.loops; labels = can.labels }

pub can_build : {kinds : List Kind} {at : ObjectNets} {s : Statement} {start token : ℕ} {c : Circuit} → IsBuildable kinds s → CanRead kinds at c → start < length c.nodes
    → length c.nodes + (control_weight kinds s + statement_flops s) < 2 ^ 32 → token + statement_flops s < 2 ^ 32 → CanBuild kinds at s start token c
can_build is reads there room numbers = record {
  reads = reads;
  there = there;
  typed = is.typed;
  built = is.built;
  loops = is.loops;
  labels = is.labels;
  room = room;
  numbers = numbers;
}

-- ---- the sides of an `if`, and the body of a loop

pub if_yes : {kinds : List Kind} (place : Place) (c : Expression) (a b : Statement) → IsBuildable kinds (If place c a b) → IsBuildable kinds a
if_yes place c a b is = record {
  typed = is.typed.1;
  built = (none_first (unbuilt_statement a) _ (built_here (is_built_expression c) place _ is.built).1).0;
  loops = (none_first (first_where endless a) _ (none_here (endless (If place c a b)) place _ is.loops).1).0;
  labels = (none_first (first_where repeats_label a) _ (none_here (repeats_label (If place c a b)) place _ is.labels).1).0;
}

pub if_no : {kinds : List Kind} (place : Place) (c : Expression) (a b : Statement) → IsBuildable kinds (If place c a b) → IsBuildable kinds b
if_no place c a b is = record {
  typed = is.typed.2;
  built = (none_first (unbuilt_statement a) _ (built_here (is_built_expression c) place _ is.built).1).1;
  loops = (none_first (first_where endless a) _ (none_here (endless (If place c a b)) place _ is.loops).1).1;
  labels = (none_first (first_where repeats_label a) _ (none_here (repeats_label (If place c a b)) place _ is.labels).1).1;
}

pub while_body : {kinds : List Kind} (place : Place) (c : Expression) (body : Statement) → IsBuildable kinds (While place c body) → IsBuildable kinds body
while_body place c body is = record {
  typed = is.typed.1;
  built = (built_here (is_built_expression c) place _ is.built).1;
  loops = (none_here (endless (While place c body)) place _ is.loops).1;
  labels = (none_here (repeats_label (While place c body)) place _ is.labels).1;
}

pub do_body : {kinds : List Kind} (place : Place) (body : Statement) (c : Expression) → IsBuildable kinds (DoWhile place body c) → IsBuildable kinds body
do_body place body c is = record {
  typed = is.typed.1;
  built = (built_here (is_built_expression c) place _ is.built).1;
  loops = (none_here (endless (DoWhile place body c)) place _ is.loops).1;
  labels = (none_here (repeats_label (DoWhile place body c)) place _ is.labels).1;
}

-- ---- arms

pub switch_test : {kinds : List Kind} (place : Place) (e : Expression) (arms : Arms) → IsBuildable kinds (Switch place e arms) → is_built_expression e ≡ true
switch_test place e arms is = (built_here (is_built_expression e) place _ is.built).0

pub switch_arms : {kinds : List Kind} (place : Place) (e : Expression) (arms : Arms) → (is : IsBuildable kinds (Switch place e arms)) → ArmsBuildable kinds is.typed.0 is.typed.1 arms
switch_arms place e arms is = record {
  typed = is.typed.3;
  built = (built_here (is_built_expression e) place _ is.built).1;
  loops = (none_here (endless (Switch place e arms)) place _ is.loops).1;
  labels = (none_here (repeats_label (Switch place e arms)) place _ is.labels).1;
}

pub first_arm_buildable : {kinds : List Kind} {w : ℕ} {s : Bool} (values : List Number) (other : Bool) (body : Statement) (rest : Arms)
    → ArmsBuildable kinds w s (arm values other body rest) → IsBuildable kinds body
first_arm_buildable values other body rest is = record {
  typed = is.typed.1;
  built = (none_first (unbuilt_statement body) _ is.built).0;
  loops = (none_first (first_where endless body) _ is.loops).0;
  labels = (none_first (first_where repeats_label body) _ is.labels).0;
}

pub rest_arms_buildable : {kinds : List Kind} {w : ℕ} {s : Bool} (values : List Number) (other : Bool) (body : Statement) (rest : Arms)
    → ArmsBuildable kinds w s (arm values other body rest) → ArmsBuildable kinds w s rest
rest_arms_buildable values other body rest is = record {
  typed = is.typed.2;
  built = (none_first (unbuilt_statement body) _ is.built).1;
  loops = (none_first (first_where endless body) _ is.loops).1;
  labels = (none_first (first_where repeats_label body) _ is.labels).1;
}
