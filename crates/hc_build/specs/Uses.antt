-- The gates for what objects hold after an edge, by their uses.
use Rattle.std.specs.Prelude.{◌≡◌, ℕ, ◌+◌, ◌*◌, List, [], ◌∷◌, length, Some, slice_get}
use Rattle.hc_core.specs.Weight.{expression_weight, target_weight}
use Rattle.hc_core.specs.declared.object.Kind.{Kind}
use Rattle.hc_core.specs.declared.object.Kind.TheVariants as kind
use Rattle.hc_meaning.specs.Residual.{Action, Assign, Delay, Send, Receive}
use Rattle.hc_net.specs.declared.node.Node.{Node}
use Rattle.hc_store.specs.Arrays.{array_gates}
use Rattle.hc_store.specs.Takes.{hold_gates}
use Rattle.hc_control.specs.Uses.{AreThere}
use Rattle.hc_control.specs.declared.uses.ObjectUses.{ObjectUses}

-- the gates for the next bits of an object
abbrev pub next_gates : List Node → Kind → ObjectUses → ℕ
next_gates nodes (kind.Reg w s init) u = hold_gates w (length u.enables)
next_gates nodes (kind.Array w s n init) u = array_gates nodes n w u.indexes
next_gates nodes (kind.Ram w s n init) u = 0
next_gates nodes (kind.Rom w s n init) u = 0
next_gates nodes (kind.Signal w s unset) u = 0
next_gates nodes (kind.Chan w s queue) u = 0
next_gates nodes (kind.Input w s pins) u = 0
next_gates nodes (kind.Output w s pins value) u = 0

-- those of all objects
abbrev pub all_next_gates : List Node → List Kind → List ObjectUses → ℕ
all_next_gates nodes [] uses = 0
all_next_gates nodes (kind ∷ kinds) [] = 0
all_next_gates nodes (kind ∷ kinds) (u ∷ uses) = next_gates nodes kind u + all_next_gates nodes kinds uses

-- the part of an object's weight that its next bits may take
abbrev pub next_weight : Kind → ℕ
next_weight (kind.Reg w s init) = 2 * w + 4
next_weight (kind.Array w s n init) = n * (2 * w + 4)
next_weight (kind.Ram w s n init) = 0
next_weight (kind.Rom w s n init) = 0
next_weight (kind.Signal w s unset) = 0
next_weight (kind.Chan w s queue) = 0
next_weight (kind.Input w s pins) = 0
next_weight (kind.Output w s pins value) = 0

-- The part of an action's weight that isn't its control's.
abbrev pub action_weight : List Kind → Action → ℕ
action_weight kinds (Assign t e) = 32 + target_weight kinds t + expression_weight kinds e
action_weight kinds Delay = 32
action_weight kinds (Send chan e) = 32
action_weight kinds (Receive chan t) = 32

-- The uses are there for the next bits of each object.
pub record HasUses (kinds : List Kind) (nodes : List Node) (uses : List ObjectUses) : Type 0 where
  pub count : length uses ≡ length kinds
  pub each : (k : ℕ) (kind : Kind) (u : ObjectUses) → slice_get kinds k ≡ Some kind → slice_get uses k ≡ Some u → AreThere kind nodes u
