-- What the control of a statement adds to a circuit, and what its nets do.
use Rattle.std.specs.Prelude.{◌≡◌, ◌<◌, ◌≤◌, ℕ, ◌+◌, ◌^◌, List, [], ◌∷◌, ◌++◌, length, map, false, Option, None, All}
use Rattle.std.specs.List.{concat}
use Rattle.hc_core.specs.FirstPlace.{first_where, first_in}
use Rattle.hc_core.specs.Rules.{endless, repeats_label}
use Rattle.hc_core.specs.Program.{Statement, Statements, stop, ◌⨾◌}
use Rattle.hc_core.specs.Sound.{IsTyped, AllTyped}
use Rattle.hc_core.specs.Weight.{statement_flops, list_flops}
use Rattle.hc_core.specs.Zero.{zero}
use Rattle.hc_core.specs.declared.object.Kind.{Kind}
use Rattle.hc_meaning.specs.Control.{Condition}
use Rattle.hc_meaning.specs.Residual.{Residual, residual}
use Rattle.hc_net.specs.Circuit.{Circuit, Explains, node_at}
use Rattle.hc_net.specs.Run.{Trace}
use Rattle.hc_net.specs.Seal.{Within}
use Rattle.hc_net.specs.declared.node.Node.{Node}
use Rattle.hc_net.specs.declared.node.Node.TheVariants.{Wire}
use Rattle.hc_token.specs.Control.{IsNever}
use Rattle.hc_token.specs.Part.{AddsPart}
use Rattle.hc_token.specs.declared.ends.Ends.{Ends}
use Rattle.hc_value.specs.declared.objects.ObjectNets.{ObjectNets}
use Rattle.hc_control.specs.Built.{unbuilt_statement, unbuilt_parts}
use Rattle.hc_control.specs.Right.{CanRead, IsRight}
use Rattle.hc_control.specs.Starts.{leaves, selected}
use Rattle.hc_control.specs.Token.{Clocks, Follows}
use Rattle.hc_control.specs.Weighs.{control_weight, parts_control}
use Rattle.hc_control.specs.declared.started.Started.{Started}

-- the placeholders behind the old nodes have rank 0
abbrev pub HaveRankZero : List Node → List Node → Type 0
HaveRankZero old new = (k rank : ℕ) (from : Option ℕ) → length old ≤ k → node_at new k ≡ Wire rank from → rank ≡ 0

-- Control was added: at most so many gates and placeholders, all of which are driven and have rank 0, and so many tokens from this
-- number on.
pub record AddsControl (most token count : ℕ) (old new : Circuit) : Type 0 where
  pub part : AddsPart most token count [] old new
  pub ranks : HaveRankZero old.nodes new.nodes

-- What it takes to build the control of a statement: it is sound and of built forms, no loop in it is endless and no label
-- stands twice, and there is room.
pub record CanBuild (kinds : List Kind) (at : ObjectNets) (s : Statement) (start token : ℕ) (c : Circuit) : Type 0 where
  pub reads : CanRead kinds at c
  pub there : start < length c.nodes
  pub typed : IsTyped kinds s
  pub built : unbuilt_statement s ≡ None
  pub loops : first_where endless s ≡ None
  pub labels : first_where repeats_label s ≡ None
  pub room : length c.nodes + (control_weight kinds s + statement_flops s) < 2 ^ 32
  pub numbers : token + statement_flops s < 2 ^ 32

-- In each history the nets of control follow a statement, whatever the numbers of its actions: on every run of worlds, as long
-- as the nets of objects are right. The actions that are enabled in a clock are those whose starts hold.
abbrev pub FollowsAlways : List Kind → ObjectNets → (ℕ → Residual) → (start : ℕ) → List Node → (starts : List ℕ) → Ends → Type 0
FollowsAlways kinds at s start nodes starts ends =
    (n : ℕ) (c : Clocks) (trace : Trace) (h : _) → Explains nodes trace h
    → (tested : ℕ → List Condition)
    × Follows c (λ t. IsRight kinds at (c.world t) (h t)) (s n) (λ t. h t start) (λ t. h t ends.pass) (λ t. h t ends.finish) (λ t. selected (map (h t) starts) (leaves (s n))) tested

-- The circuit of a statement: its nets are there, a pass and a finish reach no placeholder, a statement that takes a clock has
-- the constant 0 as its pass, and the nets follow the statement.
pub record IsCircuit (kinds : List Kind) (at : ObjectNets) (s : Statement) (start : ℕ) (nodes : List Node) (starts : List ℕ) (ends : Ends) : Type 0 where
  pub there : (ends.pass < length nodes) × (ends.finish < length nodes)
  pub starts_there : All (λ k. k < length nodes) starts
  pub count : (n : ℕ) → length starts ≡ length (leaves (residual s n).0)
  pub pass : Within nodes 0 ends.pass
  pub finish : Within nodes 0 ends.finish
  pub never : zero s ≡ false → IsNever nodes ends.pass
  pub follows : FollowsAlways kinds at (λ n. (residual s n).0) start nodes starts ends

-- The control of a statement was built: the starts of its actions stand behind those of a list.
pub record Builds (kinds : List Kind) (at : ObjectNets) (s : Statement) (start : ℕ) (old new : Circuit) (before after : Started) (ends : Ends) : Type 0 where
  pub starts : List ℕ
  pub put : after.starts ≡ before.starts ++ starts
  pub next : after.next ≡ before.next + statement_flops s
  pub adds : AddsControl (control_weight kinds s) before.next (statement_flops s) old new
  pub circuit : IsCircuit kinds at s start new.nodes starts ends

-- ---- branches

-- What it takes to build the control of each statement of a list, all of which start together.
pub record CanBuildEach (kinds : List Kind) (at : ObjectNets) (list : Statements) (start token : ℕ) (c : Circuit) : Type 0 where
  pub reads : CanRead kinds at c
  pub there : start < length c.nodes
  pub typed : AllTyped kinds list
  pub built : unbuilt_parts list ≡ None
  pub loops : first_in endless list ≡ None
  pub labels : first_in repeats_label list ≡ None
  pub room : length c.nodes + (parts_control kinds 0 list + list_flops 0 list) < 2 ^ 32
  pub numbers : token + list_flops 0 list < 2 ^ 32

-- the starts of each statement of a list, one behind another, and its ends
abbrev pub AreCircuits : List Kind → ObjectNets → Statements → ℕ → List Node → List (List ℕ) → List Ends → Type 0
AreCircuits kinds at stop start nodes [] [] = Unit {0}
AreCircuits kinds at (first ⨾ rest) start nodes (starts ∷ more) (ends ∷ all) = IsCircuit kinds at first start nodes starts ends × AreCircuits kinds at rest start nodes more all
AreCircuits kinds at list start nodes more all = ⊥

-- The control of each statement of a list was built, each with one start.
pub record BuildsEach (kinds : List Kind) (at : ObjectNets) (list : Statements) (start : ℕ) (old new : Circuit) (before after : Started) (all : List Ends) : Type 0 where
  pub starts : List (List ℕ)
  pub put : after.starts ≡ before.starts ++ concat starts
  pub next : after.next ≡ before.next + list_flops 0 list
  pub adds : AddsControl (parts_control kinds 0 list) before.next (list_flops 0 list) old new
  pub circuits : AreCircuits kinds at list start new.nodes starts all
