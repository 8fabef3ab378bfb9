-- A level for each net, and the order in which nets get their places: each after the nets that it reads in its clock.
use Rattle.std.specs.Prelude.{◌≡◌, ◌<◌, ◌≤◌, ℕ, ◌+◌, List, length, Option, Some, None, slice_index_or, max, All}
use Rattle.hc_net.specs.Circuit.{last_rank, node_at}
use Rattle.hc_net.specs.Seal.{Within}
use Rattle.hc_net.specs.declared.node.Node.{Node}
use Rattle.hc_net.specs.declared.node.Node.TheVariants.{Input, Flop, Wire, Gate, Ram}
use Rattle.hc_net.specs.declared.gate.GateKind.{GateKind}
use Rattle.hc_net.specs.declared.gate.GateKind.TheVariants as kind
use Rattle.hc_net.specs.declared.seal.order.Leveled.{Leveled}

-- the inputs that a kind of gate uses have a property
abbrev pub GateReads : (ℕ → Type 0) → GateKind → ℕ → ℕ → Type 0
GateReads P kind.Zero a b = Unit {0}
GateReads P kind.One a b = Unit {0}
GateReads P kind.Not a b = P a
GateReads P kind.And a b = P a × P b
GateReads P kind.Or a b = P a × P b
GateReads P kind.Xor a b = P a × P b

-- the nets that a node reads in its clock have a property
abbrev pub Reads : (ℕ → Type 0) → Node → Type 0
Reads P (Input p i) = Unit {0}
Reads P (Flop name init d) = Unit {0}
Reads P (Wire rank None) = Unit {0}
Reads P (Wire rank (Some d)) = P d
Reads P (Gate g a b) = GateReads P g a b
Reads P (Ram rank first None) = P first
Reads P (Ram rank first (Some r)) = All P r.addr

-- an entry that isn't there stands as net 0 at level 0
abbrev pub entry_at : List Leveled → ℕ → Leveled
entry_at levels k = slice_index_or levels k (record { level = 0; net = 0 })

abbrev pub level_at : List Leveled → ℕ → ℕ
level_at levels k = (entry_at levels k).level

-- the greatest level of the inputs that a gate uses
abbrev pub gate_level : List Leveled → GateKind → ℕ → ℕ → ℕ
gate_level levels kind.Zero a b = 0
gate_level levels kind.One a b = 0
gate_level levels kind.Not a b = level_at levels a
gate_level levels kind.And a b = max (level_at levels a) (level_at levels b)
gate_level levels kind.Or a b = max (level_at levels a) (level_at levels b)
gate_level levels kind.Xor a b = max (level_at levels a) (level_at levels b)

-- the level of a node from those of the nodes before it: those of a placeholder and of a RAM are above its rank
abbrev pub node_level : List Leveled → Node → ℕ
node_level levels (Input p i) = 0
node_level levels (Flop name init d) = 0
node_level levels (Wire rank from) = rank + 1
node_level levels (Gate g a b) = gate_level levels g a b
node_level levels (Ram rank first ram) = rank + 1

-- each net with its level
pub record AreLevels (nodes : List Node) (levels : List Leveled) : Type 0 where
  pub size : length levels ≡ length nodes
  pub each : (k : ℕ) → k < length nodes → entry_at levels k ≡ record { level = node_level levels (node_at nodes k); net = k }

-- each net is there, and stands after what it reads
pub record IsOrder (nodes : List Node) (order : List Leveled) : Type 0 where
  pub bound : (i : ℕ) → i < length order → (entry_at order i).net < length nodes
  pub all : (k : ℕ) → k < length nodes → (i : ℕ) × (i < length order) × ((entry_at order i).net ≡ k)
  pub after : (i : ℕ) → i < length order → Reads (λ k. (j : ℕ) × (j < i) × ((entry_at order j).net ≡ k)) (node_at nodes (entry_at order i).net)

-- a node that is a placeholder is driven
abbrev pub IsDriven : Node → Type 0
IsDriven (Input p i) = Unit {0}
IsDriven (Flop name init d) = Unit {0}
IsDriven (Wire rank None) = ⊥
IsDriven (Wire rank (Some d)) = Unit {0}
IsDriven (Gate g a b) = Unit {0}
IsDriven (Ram rank first ram) = Unit {0}

-- a placeholder is driven by what reaches smaller ranks alone
abbrev pub AreDriven : List Node → Type 0
AreDriven nodes = (k rank : ℕ) (from : Option ℕ) → k < length nodes → node_at nodes k ≡ Wire rank from → (d : ℕ) × (from ≡ Some d) × (d < length nodes) × Within nodes rank d

-- a node that is a gate has a property
abbrev pub IfGate : (GateKind → ℕ → ℕ → Type 0) → Node → Type 0
IfGate P (Input p i) = Unit {0}
IfGate P (Flop name init d) = Unit {0}
IfGate P (Wire rank from) = Unit {0}
IfGate P (Gate g a b) = P g a b
IfGate P (Ram rank first ram) = Unit {0}

-- gates read earlier nets alone
abbrev pub GatesReadEarlier : List Node → Type 0
GatesReadEarlier nodes = (k : ℕ) → k < length nodes → IfGate (GateReads (λ x. x < k)) (node_at nodes k)

-- a placeholder's rank is at most the last one
abbrev pub HasRank : Node → Type 0
HasRank (Input p i) = Unit {0}
HasRank (Flop name init d) = Unit {0}
HasRank (Wire rank from) = rank ≤ last_rank
HasRank (Gate g a b) = Unit {0}
HasRank (Ram rank first ram) = Unit {0}

abbrev pub HaveRanks : List Node → Type 0
HaveRanks nodes = (k : ℕ) → k < length nodes → HasRank (node_at nodes k)
