-- What the nets of each object read: the next bits of a register or an array, and the number of an output's expression.
use Rattle.std.specs.Prelude.{◌≡◌, ◌≢◌, ◌<◌, ◌≤◌, ℕ, ◌+◌, ◌*◌, List, [], ◌++◌, length, map, Bool, true, false, Some, None, slice_get, slice_index, slice_index_or, All}
use Rattle.std.specs.List.{sum_by}
use Rattle.hc_core.specs.Read.{expression}
use Rattle.hc_core.specs.Weight.{expression_weight}
use Rattle.hc_core.specs.declared.object.Kind.{Kind}
use Rattle.hc_core.specs.declared.object.Kind.TheVariants as kind
use Rattle.hc_net.specs.Circuit.{Circuit, node_at, reading}
use Rattle.hc_net.specs.Frame.{Keeps}
use Rattle.hc_net.specs.Made.{Adds, Always, Over}
use Rattle.hc_net.specs.declared.node.Node.{Node}
use Rattle.hc_net.specs.declared.node.Node.TheVariants.{Input, Flop, Wire, Gate, Ram}
use Rattle.hc_store.specs.Takes.{Takes}
use Rattle.hc_store.specs.Arrays.{TakesEach}
use Rattle.hc_value.specs.Objects.{nets_of, AreNets}
use Rattle.hc_value.specs.Reads.{Holds, reached}
use Rattle.hc_value.specs.declared.objects.ObjectNets.{ObjectNets}
use Rattle.hc_build.specs.Built.{is_built_kind}
use Rattle.hc_build.specs.Objects.{nodes_from, nets_from}
use Rattle.hc_build.specs.Uses.{next_gates, all_next_gates}
use Rattle.hc_control.specs.declared.uses.ObjectUses.{ObjectUses}

-- the gates for the expression of an output
abbrev pub output_gates : List Kind → Kind → ℕ
output_gates kinds (kind.Reg w s init) = 0
output_gates kinds (kind.Array w s n init) = 0
output_gates kinds (kind.Ram w s n init) = 0
output_gates kinds (kind.Rom w s n init) = 0
output_gates kinds (kind.Signal w s unset) = 0
output_gates kinds (kind.Chan w s queue) = 0
output_gates kinds (kind.Input w s pins) = 0
output_gates kinds (kind.Output w s pins value) = expression_weight kinds (expression value)

-- What an object's nets read: those of a register or an array what its writes make of it, those of an output its
-- expression, and those of an input nothing.
abbrev pub IsSource : List Kind → ObjectNets → List Node → ℕ → ObjectUses → List ℕ → Kind → Type 0
IsSource kinds at nodes k u nets (kind.Reg w s init) =
    AreNets (length nodes) w nets × Always nodes (λ v. Takes v (length u.enables) (λ i. v (slice_index u.enables i)) (nets_of at k) u.values nets)
IsSource kinds at nodes k u nets (kind.Array w s n init) =
    AreNets (length nodes) (n * w) nets × Always nodes (λ v. TakesEach v n w u.enables u.indexes (nets_of at k) u.values nets)
IsSource kinds at nodes k u nets (kind.Ram w s n init) = nets ≡ []
IsSource kinds at nodes k u nets (kind.Rom w s n init) = nets ≡ []
IsSource kinds at nodes k u nets (kind.Signal w s unset) = nets ≡ []
IsSource kinds at nodes k u nets (kind.Chan w s queue) = nets ≡ []
IsSource kinds at nodes k u nets (kind.Input w s pins) = nets ≡ []
IsSource kinds at nodes k u nets (kind.Output w s pins value) =
    AreNets (length nodes) w nets × (All (Over nodes (reached at (expression value))) nets × Always nodes (Holds kinds at (expression value) nets))

-- the nets that an object of a kind may read, among the first n
abbrev pub IsSourceOf : ℕ → Kind → List ℕ → Type 0
IsSourceOf n (kind.Reg w s init) nets = AreNets n w nets
IsSourceOf n (kind.Array w s m init) nets = AreNets n (m * w) nets
IsSourceOf n (kind.Ram w s m init) nets = nets ≡ []
IsSourceOf n (kind.Rom w s m init) nets = nets ≡ []
IsSourceOf n (kind.Signal w s unset) nets = nets ≡ []
IsSourceOf n (kind.Chan w s queue) nets = nets ≡ []
IsSourceOf n (kind.Input w s pins) nets = nets ≡ []
IsSourceOf n (kind.Output w s pins value) nets = AreNets n w nets

-- Gates for what the objects read were added, and each object has its source.
pub record MakesSources (kinds : List Kind) (at : ObjectNets) (uses : List ObjectUses) (old new : Circuit) (sources : List (List ℕ)) : Type 0 where
  pub adds : Adds (all_next_gates old.nodes kinds uses + sum_by (output_gates kinds) kinds) old new
  pub count : length sources ≡ length kinds
  pub each : (k : ℕ) (kind : Kind) (u : ObjectUses) → slice_get kinds k ≡ Some kind → slice_get uses k ≡ Some u
      → IsSource kinds at new.nodes k u (slice_index_or sources k []) kind

-- The source of one object was made.
pub record MakesSource (kinds : List Kind) (at : ObjectNets) (k : ℕ) (u : ObjectUses) (kind : Kind) (old new : Circuit) (nets : List ℕ) : Type 0 where
  pub adds : Adds (next_gates old.nodes kind u + output_gates kinds kind) old new
  pub is : IsSource kinds at new.nodes k u nets kind

-- the expressions of all outputs are built
abbrev pub AreBuiltOutputs : List Kind → Type 0
AreBuiltOutputs kinds = (k : ℕ) (kind : Kind) → slice_get kinds k ≡ Some kind → is_built_kind kind ≡ true

-- ---- connecting

-- a flip-flop or a placeholder that reads nothing yet
abbrev pub is_open : Node → Bool
is_open (Input p i) = false
is_open (Flop name init None) = true
is_open (Flop name init (Some d)) = false
is_open (Wire rank None) = true
is_open (Wire rank (Some d)) = false
is_open (Gate g a b) = false
is_open (Ram rank first ram) = false

-- whether the nets of an object are placeholders
abbrev pub is_placeholder : Kind → Bool
is_placeholder (kind.Reg w s init) = false
is_placeholder (kind.Array w s n init) = false
is_placeholder (kind.Ram w s n init) = false
is_placeholder (kind.Rom w s n init) = false
is_placeholder (kind.Signal w s unset) = false
is_placeholder (kind.Chan w s queue) = false
is_placeholder (kind.Input w s pins) = false
is_placeholder (kind.Output w s pins value) = true

-- a node without the net that a flip-flop or a placeholder reads
abbrev pub bare : Node → Node
bare (Input p i) = Input p i
bare (Flop name init d) = Flop name init None
bare (Wire rank from) = Wire rank None
bare (Gate g a b) = Gate g a b
bare (Ram rank first ram) = Ram rank first ram

-- What it takes that nets of a list read those of another: there are enough of them, they differ, and all are there.
pub record CanRead (nets from : List ℕ) (c : Circuit) : Type 0 where
  pub count : length from ≤ length nets
  pub differ : (i j : ℕ) → i < j → j < length from → slice_index nets i ≢ slice_index nets j
  pub there : (i : ℕ) → i < length from → slice_index nets i < length c.nodes
  pub within : All (λ k. k < length c.nodes) from

-- The first n nets of a list read the nets in the same places of another, and all else is as it was.
pub record ReadsFirst (n : ℕ) (nets from : List ℕ) (old new : Circuit) : Type 0 where
  pub clock : new.clock ≡ old.clock
  pub ports : new.ports ≡ old.ports
  pub read : (i : ℕ) → i < n → node_at new.nodes (slice_index nets i) ≡ reading (slice_index from i) (node_at old.nodes (slice_index nets i))
  pub others : (j : ℕ) → ((i : ℕ) → i < n → slice_index nets i ≢ j) → node_at new.nodes j ≡ node_at old.nodes j
  pub bare : map bare new.nodes ≡ map bare old.nodes
  pub keeps : Keeps old.nodes new.nodes

-- Each net of an object reads the net in the same place of its source, and all else is as it was.
pub record Connects (kinds : List Kind) (at : ObjectNets) (sources : List (List ℕ)) (old new : Circuit) : Type 0 where
  pub clock : new.clock ≡ old.clock
  pub ports : new.ports ≡ old.ports
  pub read : (k i : ℕ) → k < length kinds → i < length (slice_index_or sources k [])
      → node_at new.nodes (slice_index (nets_of at k) i) ≡ reading (slice_index (slice_index_or sources k []) i) (node_at old.nodes (slice_index (nets_of at k) i))
  pub kept : (j : ℕ) → is_open (node_at old.nodes j) ≡ false → node_at new.nodes j ≡ node_at old.nodes j
  pub bare : map bare new.nodes ≡ map bare old.nodes
  pub keeps : Keeps old.nodes new.nodes

-- What it takes to connect the objects: their nodes stand first, and each source names nets that are there, one for each
-- net of its object, or none.
pub record CanConnect (kinds : List Kind) (at : ObjectNets) (sources : List (List ℕ)) (c : Circuit) : Type 0 where
  pub more : List Node
  pub nodes : c.nodes ≡ nodes_from 0 0 kinds ++ more
  pub objects : at.objects ≡ nets_from 0 kinds
  pub count : length sources ≡ length kinds
  pub each : (k : ℕ) (kind : Kind) → slice_get kinds k ≡ Some kind → IsSourceOf (length c.nodes) kind (slice_index_or sources k [])
