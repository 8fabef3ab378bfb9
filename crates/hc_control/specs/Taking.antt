-- The control of the arms of a `switch`.
use Rattle.std.specs.Prelude.{◌≡◌, ◌<◌, ℕ, ◌+◌, ◌^◌, List, [], ◌∷◌, ◌++◌, length, map, Bool, true, false, not, ◌&&◌, ◌||◌, if◌then◌else◌, Some, None, slice_get, All}
use Rattle.hc_core.specs.FirstPlace.{first_where, first_in_arms}
use Rattle.hc_core.specs.Rules.{endless, repeats_label}
use Rattle.hc_core.specs.Program.{Statement, Arms, no_arm, arm}
use Rattle.hc_core.specs.Sound.{IsTyped, ArmsTyped}
use Rattle.hc_core.specs.Weight.{statement_flops, arms_flops}
use Rattle.hc_core.specs.Zero.{zero, some_zero, has_default}
use Rattle.hc_core.specs.declared.object.Kind.{Kind}
use Rattle.hc_meaning.specs.Residual.{residual, arms_left}
use Rattle.hc_net.specs.Circuit.{Circuit, Explains}
use Rattle.hc_net.specs.Run.{Trace}
use Rattle.hc_net.specs.Seal.{Within}
use Rattle.hc_token.specs.Control.{IsNever}
use Rattle.hc_token.specs.declared.ends.Ends.{Ends}
use Rattle.hc_value.specs.declared.objects.ObjectNets.{ObjectNets}
use Rattle.hc_control.specs.Building.{AddsControl, FollowsAlways}
use Rattle.hc_control.specs.Built.{unbuilt_statement, unbuilt_arms}
use Rattle.hc_control.specs.Lists.{ArmWires, FollowArms, some_pass, some_finish, arms_enabled}
use Rattle.hc_control.specs.Right.{CanRead, IsRight}
use Rattle.hc_control.specs.Starts.{leaves, leaves_of_arms, selected}
use Rattle.hc_control.specs.Token.{Clocks}
use Rattle.hc_control.specs.Weighs.{control_weight}
use Rattle.hc_control.specs.declared.started.Started.{Started}

-- For each arm whether it is taken: where its bit holds, and the first with the label `default`, if none came before, also where
-- no arm is named.
abbrev pub marked : List Bool → (otherwise defaulted : Bool) → Arms → List Bool
marked [] otherwise defaulted arms = []
marked (x ∷ xs) otherwise defaulted no_arm = []
marked (x ∷ xs) otherwise defaulted (arm values other body rest) =
    (if other && not defaulted then x || otherwise else x) ∷ marked xs otherwise (defaulted || other) rest

-- the gates of the control of arms: those of each body, five to take an arm, and one behind the last
abbrev pub take_weight : List Kind → Arms → ℕ
take_weight kinds no_arm = 1
take_weight kinds (arm values other body rest) = 5 + control_weight kinds body + take_weight kinds rest

-- What it takes to build the control of arms.
pub record CanTake (kinds : List Kind) (at : ObjectNets) (arms : Arms) (start token : ℕ) (nets : List ℕ) (otherwise : ℕ) (c : Circuit) : Type 0 where
  pub reads : CanRead kinds at c
  pub there : start < length c.nodes
  pub typed : (w : ℕ) × (s : Bool) × ArmsTyped kinds w s arms
  pub built : unbuilt_arms arms ≡ None
  pub loops : first_in_arms endless arms ≡ None
  pub labels : first_in_arms repeats_label arms ≡ None
  pub nets_there : All (λ k. (k < length c.nodes) × Within c.nodes 0 k) nets
  pub otherwise_there : (otherwise < length c.nodes) × Within c.nodes 0 otherwise
  pub room : length c.nodes + (take_weight kinds arms + arms_flops arms) < 2 ^ 32
  pub numbers : token + arms_flops arms < 2 ^ 32

-- In each history the arms are followed, and the ends are those of the arms that are taken; where no arm is, what starts passes.
pub record FollowTaken (kinds : List Kind) (at : ObjectNets) (arms : Arms) (start : ℕ) (nets : List ℕ) (otherwise : ℕ) (starts : List ℕ) (ends : Ends) (n : ℕ) (c : Clocks) (h : ℕ → ℕ → Bool) : Type 0 where
  pub wires : List ArmWires
  pub follow : FollowArms c (λ t. IsRight kinds at (c.world t) (h t)) (arms_left arms n).0 wires
  pub chooses : (t : ℕ) → map (λ x. x.chosen t) wires ≡ marked (map (h t) nets) (h t otherwise) false arms
  pub begins : (t i : ℕ) (x : ArmWires) → slice_get wires i ≡ Some x → x.start t ≡ (h t start && x.chosen t)
  pub passes : (t : ℕ) → h t ends.pass ≡ (some_pass wires t || (not (has_default arms) && h t otherwise))
  pub finishes : (t : ℕ) → h t ends.finish ≡ some_finish wires t
  pub enables : (t : ℕ) → arms_enabled wires t ≡ selected (map (h t) starts) (leaves_of_arms (arms_left arms n).0)

-- The control of the arms was built.
pub record Takes (kinds : List Kind) (at : ObjectNets) (arms : Arms) (start : ℕ) (nets : List ℕ) (otherwise : ℕ) (old new : Circuit) (before after : Started) (ends : Ends) : Type 0 where
  pub starts : List ℕ
  pub put : after.starts ≡ before.starts ++ starts
  pub next : after.next ≡ before.next + arms_flops arms
  pub adds : AddsControl (take_weight kinds arms) before.next (arms_flops arms) old new
  pub there : (ends.pass < length new.nodes) × (ends.finish < length new.nodes)
  pub starts_there : All (λ k. k < length new.nodes) starts
  pub count : (n : ℕ) → length starts ≡ length (leaves_of_arms (arms_left arms n).0)
  pub pass : Within new.nodes 0 ends.pass
  pub finish : Within new.nodes 0 ends.finish
  pub never : some_zero arms ≡ false → has_default arms ≡ true → IsNever new.nodes ends.pass
  pub follows : (n : ℕ) (c : Clocks) (trace : Trace) (h : _) → Explains new.nodes trace h → FollowTaken kinds at arms start nets otherwise starts ends n c h

-- ---- one arm

-- What it takes to build the control of one arm.
pub record CanTakeOne (kinds : List Kind) (at : ObjectNets) (s : Statement) (start chosen token : ℕ) (c : Circuit) : Type 0 where
  pub reads : CanRead kinds at c
  pub there : start < length c.nodes
  pub chosen_there : (chosen < length c.nodes) × Within c.nodes 0 chosen
  pub typed : IsTyped kinds s
  pub built : unbuilt_statement s ≡ None
  pub loops : first_where endless s ≡ None
  pub labels : first_where repeats_label s ≡ None
  pub room : length c.nodes + (2 + control_weight kinds s + statement_flops s) < 2 ^ 32
  pub numbers : token + statement_flops s < 2 ^ 32

-- The control of one arm was built. It starts where the start holds and it is chosen, and its pass is that of its body where it is
-- chosen.
pub record TakesOne (kinds : List Kind) (at : ObjectNets) (s : Statement) (start chosen : ℕ) (old new : Circuit) (before after : Started) (ends : Ends) : Type 0 where
  pub starts : List ℕ
  pub put : after.starts ≡ before.starts ++ starts
  pub next : after.next ≡ before.next + statement_flops s
  pub adds : AddsControl (2 + control_weight kinds s) before.next (statement_flops s) old new
  pub there : (ends.pass < length new.nodes) × (ends.finish < length new.nodes)
  pub starts_there : All (λ k. k < length new.nodes) starts
  pub count : (n : ℕ) → length starts ≡ length (leaves (residual s n).0)
  pub pass : Within new.nodes 0 ends.pass
  pub finish : Within new.nodes 0 ends.finish
  pub never : zero s ≡ false → IsNever new.nodes ends.pass
  pub begin : ℕ
  pub body : Ends
  pub finish_is : ends.finish ≡ body.finish
  pub begins : (trace : Trace) (h : _) → Explains new.nodes trace h → (t : ℕ) → h t begin ≡ (h t start && h t chosen)
  pub passes : (trace : Trace) (h : _) → Explains new.nodes trace h → (t : ℕ) → h t ends.pass ≡ (h t chosen && h t body.pass)
  pub follows : FollowsAlways kinds at (λ n. (residual s n).0) begin new.nodes starts body
