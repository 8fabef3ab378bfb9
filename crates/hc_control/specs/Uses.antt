-- What the actions of a statement write, object by object, and the nets that say so.
use Rattle.std.specs.Prelude.{◌≡◌, ◌<◌, ℕ, ◌+◌, ◌==◌, List, [], ◌∷◌, ◌++◌, length, map, true, if◌then◌else◌, Some, slice_get, slice_index, slice_index_or, slice_set, All}
use Rattle.std.specs.List.{sum_by}
use Rattle.hc_num.specs.Index.{index_width}
use Rattle.hc_num.specs.Number.{Number}
use Rattle.hc_core.specs.Program.{Expression, Constant, Target, ToRegister, ToElement, ToWord, ToSignal}
use Rattle.hc_core.specs.Sound.{Fits}
use Rattle.hc_core.specs.Typed.{kind_width, width_of}
use Rattle.hc_core.specs.Weight.{expression_weight}
use Rattle.hc_core.specs.declared.object.Kind.{Kind}
use Rattle.hc_core.specs.declared.object.Kind.TheVariants as kind
use Rattle.hc_meaning.specs.Residual.{Action, Assign, Delay, Send, Receive}
use Rattle.hc_net.specs.Circuit.{Circuit}
use Rattle.hc_net.specs.Made.{Adds, Always}
use Rattle.hc_net.specs.declared.node.Node.{Node}
use Rattle.hc_value.specs.Moves.{constant_nets}
use Rattle.hc_value.specs.Objects.{AreNets}
use Rattle.hc_value.specs.Reads.{Holds, MakesValue}
use Rattle.hc_value.specs.declared.objects.ObjectNets.{ObjectNets}
use Rattle.hc_control.specs.Built.{is_built_target, is_built_expression}
use Rattle.hc_control.specs.declared.uses.ObjectUses.{ObjectUses}

-- ---- the writes of actions

-- a write of an object: the number of its action, where it writes, and what
pub record Write : Type 0 where
  pub action : ℕ
  pub target : Target
  pub value : Expression

-- the object that a target writes
abbrev pub object_of : Target → ℕ
object_of (ToRegister k) = k
object_of (ToElement k i) = k
object_of (ToWord k i) = k
object_of (ToSignal k) = k

-- the write of object k that an action of this number makes, if it makes one
abbrev pub write_of : ℕ → ℕ → Action → List Write
write_of k n (Assign t e) = if object_of t == k then record { action = n; target = t; value = e } ∷ [] else []
write_of k n Delay = []
write_of k n (Send chan e) = []
write_of k n (Receive chan t) = []

-- the writes of object k among actions, the first of which has this number
abbrev pub writes_from : ℕ → ℕ → List Action → List Write
writes_from k n [] = []
writes_from k n (a ∷ rest) = write_of k n a ++ writes_from k (n + 1) rest

-- ---- what an action takes

-- an assignment to a register or an element with all in types and forms that are built, or a delay
abbrev pub IsBuiltAction : List Kind → Action → Type 0
IsBuiltAction kinds (Assign t e) = Fits kinds t e × (is_built_target t ≡ true) × (is_built_expression e ≡ true)
IsBuiltAction kinds Delay = Unit {0}
IsBuiltAction kinds (Send chan e) = ⊥
IsBuiltAction kinds (Receive chan t) = ⊥

-- the weight of a target's index
abbrev pub index_weight : List Kind → Target → ℕ
index_weight kinds (ToRegister k) = 0
index_weight kinds (ToElement k i) = expression_weight kinds i
index_weight kinds (ToWord k i) = expression_weight kinds i
index_weight kinds (ToSignal k) = 0

-- the gates for the values and the indexes of an action
abbrev pub action_gates : List Kind → Action → ℕ
action_gates kinds (Assign t e) = index_weight kinds t + expression_weight kinds e
action_gates kinds Delay = 0
action_gates kinds (Send chan e) = 0
action_gates kinds (Receive chan t) = 0

-- ---- the nets of objects

-- how many bits the index of a write has: none for a register
abbrev pub index_bits : Kind → ℕ
index_bits (kind.Reg w s init) = 0
index_bits (kind.Array w s n init) = index_width n
index_bits (kind.Ram w s n init) = index_width n
index_bits (kind.Rom w s n init) = index_width n
index_bits (kind.Signal w s unset) = 0
index_bits (kind.Chan w s queue) = 0
index_bits (kind.Input w s pins) = 0
index_bits (kind.Output w s pins value) = 0

-- the nets hold the index of a target, if it has one
abbrev pub HoldsIndex : List Kind → ObjectNets → List Node → Target → List ℕ → Type 0
HoldsIndex kinds at nodes (ToRegister k) nets = Unit {0}
HoldsIndex kinds at nodes (ToElement k i) nets = Always nodes (Holds kinds at i nets)
HoldsIndex kinds at nodes (ToWord k i) nets = Always nodes (Holds kinds at i nets)
HoldsIndex kinds at nodes (ToSignal k) nets = Unit {0}

-- the nets of an object's uses are there, as many as its kind wants, and none yet says whether a word of a RAM is written
pub record AreThere (kind : Kind) (nodes : List Node) (u : ObjectUses) : Type 0 where
  pub enables : All (λ k. k < length nodes) u.enables
  pub index_count : length u.indexes ≡ length u.enables
  pub value_count : length u.values ≡ length u.enables
  pub indexes : All (AreNets (length nodes) (index_bits kind)) u.indexes
  pub writes : u.writes ≡ []
  pub values : All (AreNets (length nodes) (kind_width (Some kind))) u.values

-- The uses of an object have its writes: for each the start of its action, nets that hold its index, and nets that hold its
-- value. The nets of a constant index are the constants' own.
pub record AreUses (kinds : List Kind) (at : ObjectNets) (starts : List ℕ) (nodes : List Node) (kind : Kind) (writes : List Write) (u : ObjectUses) : Type 0 where
  pub enables : u.enables ≡ map (λ x. slice_index starts x.action) writes
  pub there : AreThere kind nodes u
  pub index : (i : ℕ) (x : Write) → slice_get writes i ≡ Some x → HoldsIndex kinds at nodes x.target (slice_index_or u.indexes i [])
  pub constant : (i : ℕ) (x : Write) (n : Number) (k : ℕ) → slice_get writes i ≡ Some x → x.target ≡ ToElement k (Constant n)
      → slice_index_or u.indexes i [] ≡ constant_nets at.zero at.one n
  pub value : (i : ℕ) (x : Write) → slice_get writes i ≡ Some x → Always nodes (Holds kinds at x.value (slice_index_or u.values i []))

-- Gates for the values and indexes of the actions were added, and each object has its uses.
pub record MakesUses (kinds : List Kind) (at : ObjectNets) (starts : List ℕ) (actions : List Action) (old new : Circuit) (uses : List ObjectUses) : Type 0 where
  pub adds : Adds (sum_by (action_gates kinds) actions) old new
  pub count : length uses ≡ length kinds
  pub each : (k : ℕ) (kind : Kind) (u : ObjectUses) → slice_get kinds k ≡ Some kind → slice_get uses k ≡ Some u
      → AreUses kinds at starts new.nodes kind (writes_from k 0 actions) u

-- the uses of an object that isn't written
abbrev pub no_use : ObjectUses
no_use = record { enables = []; indexes = []; writes = []; values = [] }

-- the uses of an object with one write more
abbrev pub with_use : ℕ → List ℕ → List ℕ → ObjectUses → ObjectUses
with_use start index nets u = record { enables = u.enables ++ start ∷ []; indexes = u.indexes ++ index ∷ []; writes = u.writes; values = u.values ++ nets ∷ [] }

-- The nets of a target's index, of as many gates as the index weighs; those of a constant are the constants' own.
pub record MakesIndex (kinds : List Kind) (at : ObjectNets) (t : Target) (old new : Circuit) (nets : List ℕ) : Type 0 where
  pub adds : Adds (index_weight kinds t) old new
  pub there : All (λ k. k < length new.nodes) nets
  pub width : (kind : Kind) → slice_get kinds (object_of t) ≡ Some kind → length nets ≡ index_bits kind
  pub holds : HoldsIndex kinds at new.nodes t nets
  pub constant : (n : Number) (k : ℕ) → t ≡ ToElement k (Constant n) → nets ≡ constant_nets at.zero at.one n

-- The nets of a write's index and value were made, and stand behind the uses of its object.
pub record AddsUse (kinds : List Kind) (at : ObjectNets) (start : ℕ) (t : Target) (e : Expression) (old new : Circuit) (uses more : List ObjectUses) : Type 0 where
  pub index : List ℕ
  pub nets : List ℕ
  pub middle : Circuit
  pub makes_index : MakesIndex kinds at t old middle index
  pub makes_value : MakesValue kinds at e middle new nets
  pub width : length nets ≡ width_of kinds e
  pub put : more ≡ slice_set uses (object_of t) (with_use start index nets (slice_index_or uses (object_of t) no_use))

-- The write of an action was added, if it has one.
abbrev pub AddsUses : List Kind → ObjectNets → ℕ → Action → Circuit → Circuit → List ObjectUses → List ObjectUses → Type 0
AddsUses kinds at start (Assign t e) old new uses more = AddsUse kinds at start t e old new uses more
AddsUses kinds at start Delay old new uses more = (new ≡ old) × (more ≡ uses)
AddsUses kinds at start (Send chan e) old new uses more = ⊥
AddsUses kinds at start (Receive chan t) old new uses more = ⊥
