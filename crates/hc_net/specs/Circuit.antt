-- What a builder has collected, and the histories that it explains.
use Rattle.std.specs.Prelude.{◌≡◌, ◌<◌, ℕ, suc, ◌+◌, ◌-◌, ◌^◌, ◌≤◌, List, [], ◌∷◌, ◌++◌, length, map, replicate, Bool, true, false, Option, Some, None, slice_get, slice_index, slice_index_or, slice_set, min, All}
use Rattle.std.specs.List.{range_with_len}
use Rattle.hc_num.specs.Index.{index_width}
use Rattle.hc_net.specs.Bits.{bit}
use Rattle.hc_net.specs.Gate.{gate_bit}
use Rattle.hc_net.specs.Ram.{address, held_at, word_bit}
use Rattle.hc_net.specs.Run.{Trace, input_bits}
use Rattle.hc_net.specs.declared.net.Port.{Port}
use Rattle.hc_net.specs.declared.net.Port.TheVariants as port
use Rattle.hc_net.specs.declared.net.FlopName.{FlopName}
use Rattle.hc_net.specs.declared.node.Node.{Node}
use Rattle.hc_net.specs.declared.node.Node.TheVariants.{Input, Flop, Wire, Gate, Ram}
use Rattle.hc_net.specs.declared.ram.RamCell.{RamCell}
use Rattle.hc_net.specs.declared.ram.RamWires.{RamWires}
use Rattle.hc_net.specs.declared.gate.GateKind.{GateKind}
use Rattle.hc_net.specs.declared.gate.GateKind.TheVariants as kind

-- the clock pin, the ports in order, and a node for each net
pub record Circuit : Type 0 where
  pub clock : List ℕ
  pub ports : List Port
  pub nodes : List Node

abbrev pub with_node : Circuit → Node → Circuit
with_node c node = record { clock = c.clock; ports = c.ports; nodes = c.nodes ++ node ∷ [] }

abbrev pub with_node_at : Circuit → ℕ → Node → Circuit
with_node_at c k node = record { clock = c.clock; ports = c.ports; nodes = slice_set c.nodes k node }

-- the number of input ports
abbrev pub input_count : List Port → ℕ
input_count [] = 0
input_count (port.Input name width pins ∷ ports) = 1 + input_count ports
input_count (port.Output name width pins from ∷ ports) = input_count ports

-- the nodes of an input port
abbrev pub input_nodes : ℕ → ℕ → List Node
input_nodes p width = map (λ i. Input p i) (range_with_len 0 width)

abbrev pub with_input : Circuit → List ℕ → ℕ → List (List ℕ) → Circuit
with_input c name width pins = record { clock = c.clock; ports = c.ports ++ port.Input name width pins ∷ []; nodes = c.nodes ++ input_nodes (input_count c.ports) width }

-- an output with a bit for each net; a width over 32 bits, which no valid netlist has, stands as the greatest
abbrev pub with_output : Circuit → List ℕ → List (List ℕ) → List ℕ → Circuit
with_output c name pins from = record { clock = c.clock; ports = c.ports ++ port.Output name (min (length from) (2 ^ 32 - 1)) pins from ∷ []; nodes = c.nodes }

-- the node of a net; a net that isn't there is as a placeholder that isn't driven
abbrev pub node_at : List Node → ℕ → Node
node_at nodes k = slice_index_or nodes k (Wire 0 None)

-- the constant that a node gives, if it is a gate that gives one
abbrev pub constant_at : Node → Option Bool
constant_at (Input p i) = None
constant_at (Flop name init d) = None
constant_at (Wire rank from) = None
constant_at (Ram rank first ram) = None
constant_at (Gate kind.Zero a b) = Some false
constant_at (Gate kind.One a b) = Some true
constant_at (Gate kind.Not a b) = None
constant_at (Gate kind.And a b) = None
constant_at (Gate kind.Or a b) = None
constant_at (Gate kind.Xor a b) = None

-- The bit of each net in each clock.
abbrev pub History : Type 0
History = ℕ → ℕ → Bool

-- Net k does in each clock what its node says. The node of a RAM's bit 0 tells of all its bits: they are the word at the
-- address, of what the RAM holds by the clocks before.
abbrev pub Does : Trace → History → ℕ → Node → Type 0
Does trace h k (Input p i) = (t : ℕ) → h t k ≡ bit (slice_index (trace t) p) i
Does trace h k (Flop name init None) = h 0 k ≡ init
Does trace h k (Flop name init (Some d)) = (h 0 k ≡ init) × ((t : ℕ) → h (suc t) k ≡ h t d)
Does trace h k (Wire rank None) = Unit {0}
Does trace h k (Wire rank (Some d)) = (t : ℕ) → h t k ≡ h t d
Does trace h k (Gate g a b) = (t : ℕ) → h t k ≡ gate_bit g (h t a) (h t b)
Does trace h k (Ram rank first None) = Unit {0}
Does trace h k (Ram rank first (Some r)) = (t i : ℕ) → i < r.width → h t (k + i) ≡ word_bit (held_at r h t) r.width (address r (h t)) i

-- a history in which each net does what its node says
pub record Explains (nodes : List Node) (trace : Trace) (h : History) : Type 0 where
  pub each : (k : ℕ) → Does trace h k (node_at nodes k)

-- each history that explains the new nodes explains the old ones
abbrev pub Extends : List Node → List Node → Type 0
Extends old new = (trace : Trace) (h : History) → Explains new trace h → Explains old trace h

-- the inputs that a kind of gate uses are below n
abbrev pub GateReadsBelow : ℕ → GateKind → ℕ → ℕ → Type 0
GateReadsBelow n kind.Zero a b = Unit {0}
GateReadsBelow n kind.One a b = Unit {0}
GateReadsBelow n kind.Not a b = a < n
GateReadsBelow n kind.And a b = (a < n) × (b < n)
GateReadsBelow n kind.Or a b = (a < n) × (b < n)
GateReadsBelow n kind.Xor a b = (a < n) × (b < n)

-- a node reads nets that are there, and a gate and a RAM earlier ones alone
abbrev pub NodeReadsWithin : ℕ → ℕ → Node → Type 0
NodeReadsWithin n k (Input p i) = Unit {0}
NodeReadsWithin n k (Flop name init None) = Unit {0}
NodeReadsWithin n k (Flop name init (Some d)) = d < n
NodeReadsWithin n k (Wire rank None) = Unit {0}
NodeReadsWithin n k (Wire rank (Some d)) = d < n
NodeReadsWithin n k (Gate g a b) = GateReadsBelow k g a b
NodeReadsWithin n k (Ram rank first None) = first < k
NodeReadsWithin n k (Ram rank first (Some r)) = All (λ x. x < k) r.addr × (r.we < k) × All (λ x. x < k) r.d

-- the input nodes in order, each as its input's number and its bit
abbrev pub input_bits_of : List Node → List (ℕ × ℕ)
input_bits_of [] = []
input_bits_of (Input p i ∷ nodes) = (p, i) ∷ input_bits_of nodes
input_bits_of (Flop name init d ∷ nodes) = input_bits_of nodes
input_bits_of (Wire rank from ∷ nodes) = input_bits_of nodes
input_bits_of (Gate g a b ∷ nodes) = input_bits_of nodes
input_bits_of (Ram rank first ram ∷ nodes) = input_bits_of nodes

-- the flip-flops in order, each as its name and its first bit
abbrev pub flops_of : List Node → List (FlopName × Bool)
flops_of [] = []
flops_of (Input p i ∷ nodes) = flops_of nodes
flops_of (Flop name init d ∷ nodes) = (name, init) ∷ flops_of nodes
flops_of (Wire rank from ∷ nodes) = flops_of nodes
flops_of (Gate g a b ∷ nodes) = flops_of nodes
flops_of (Ram rank first ram ∷ nodes) = flops_of nodes

-- the number of gates
abbrev pub gates_of : List Node → ℕ
gates_of [] = 0
gates_of (Input p i ∷ nodes) = gates_of nodes
gates_of (Flop name init d ∷ nodes) = gates_of nodes
gates_of (Wire rank from ∷ nodes) = gates_of nodes
gates_of (Gate g a b ∷ nodes) = 1 + gates_of nodes
gates_of (Ram rank first ram ∷ nodes) = gates_of nodes

-- the RAMs in order, with the nets of their pins
abbrev pub memories_of : List Node → List RamCell
memories_of [] = []
memories_of (Input p i ∷ nodes) = memories_of nodes
memories_of (Flop name init d ∷ nodes) = memories_of nodes
memories_of (Wire rank from ∷ nodes) = memories_of nodes
memories_of (Gate g a b ∷ nodes) = memories_of nodes
memories_of (Ram rank first None ∷ nodes) = memories_of nodes
memories_of (Ram rank first (Some r) ∷ nodes) = r ∷ memories_of nodes

-- the number of nets of gates and RAMs
abbrev pub nets_of_cells : List Node → ℕ
nets_of_cells [] = 0
nets_of_cells (Input p i ∷ nodes) = nets_of_cells nodes
nets_of_cells (Flop name init d ∷ nodes) = nets_of_cells nodes
nets_of_cells (Wire rank from ∷ nodes) = nets_of_cells nodes
nets_of_cells (Gate g a b ∷ nodes) = 1 + nets_of_cells nodes
nets_of_cells (Ram rank first None ∷ nodes) = nets_of_cells nodes
nets_of_cells (Ram rank first (Some r) ∷ nodes) = r.width + nets_of_cells nodes

-- the rank of a RAM's write net and data nets, above those of all others, since what drives them may reach any net
abbrev pub last_rank : ℕ
last_rank = 2 ^ 32

-- the nodes of a RAM whose first net is this: its pins, then its outputs
abbrev pub ram_pins : ℕ → ℕ → ℕ → List Node
ram_pins words width rank = replicate (index_width words) (Wire rank None) ++ replicate (width + 1) (Wire last_rank None)

-- a RAM whose first pin is this net, in the order of address, write net and data
abbrev pub ram_at : ℕ → ℕ → ℕ → ℕ → List Bool → RamCell
ram_at net object words width init = record {
  object = object;
  words = words;
  width = width;
  init = init;
  addr = range_with_len net (index_width words);
  we = net + index_width words;
  d = range_with_len (net + index_width words + 1) width;
}

-- its outputs, of which the first is this net
abbrev pub ram_outputs : ℕ → ℕ → ℕ → RamCell → List Node
ram_outputs width rank net r = Ram rank net (Some r) ∷ replicate (width - 1) (Ram rank net None)

-- its nets in a builder
abbrev pub wires_at : ℕ → ℕ → ℕ → RamWires
wires_at net words width = record {
  q = range_with_len (net + index_width words + 1 + width) width;
  addr = range_with_len net (index_width words);
  we = net + index_width words;
  d = range_with_len (net + index_width words + 1) width;
}

abbrev pub with_ram : Circuit → (object words width : ℕ) → List Bool → (rank : ℕ) → Circuit
with_ram c object words width init rank = record {
  clock = c.clock;
  ports = c.ports;
  nodes = c.nodes ++ ram_pins words width rank ++ ram_outputs width rank (length c.nodes + index_width words + 1 + width) (ram_at (length c.nodes) object words width init);
}

-- a node that `Builder::add` may add by itself: no input, and no part of a RAM
abbrev pub IsAlone : Node → Type 0
IsAlone (Input p i) = ⊥
IsAlone (Flop name init d) = Unit {0}
IsAlone (Wire rank from) = rank ≤ last_rank
IsAlone (Gate g a b) = Unit {0}
IsAlone (Ram rank first ram) = ⊥

-- the address nets of a RAM whose first output is net k are earlier placeholders of its rank
abbrev pub HasAddress : List Node → ℕ → ℕ → List ℕ → Type 0
HasAddress nodes k rank addr = All (λ a. (a < k) × ((from : Option ℕ) × (node_at nodes a ≡ Wire rank from))) addr

-- the nodes of a RAM: the first output has the RAM, the others follow it and name it, and the address nets have its rank
pub record AreRams (nodes : List Node) : Type 0 where
  pub first : (k rank first : ℕ) (r : RamCell) → node_at nodes k ≡ Ram rank first (Some r) → (first ≡ k) × (1 ≤ r.width) × HasAddress nodes k rank r.addr
  pub other : (k rank first : ℕ) → node_at nodes k ≡ Ram rank first None → (r : RamCell) × (node_at nodes first ≡ Ram rank first (Some r)) × (first < k) × (k < first + r.width)
  pub all : (k rank first : ℕ) (r : RamCell) (i : ℕ) → node_at nodes k ≡ Ram rank first (Some r) → 1 ≤ i → i < r.width → node_at nodes (k + i) ≡ Ram rank k None
  pub ranks : (k rank : ℕ) (from : Option ℕ) → node_at nodes k ≡ Wire rank from → rank ≤ last_rank
  pub few : length (input_bits_of nodes) + length (flops_of nodes) + nets_of_cells nodes ≤ length nodes

-- what each builder keeps
pub record IsBuilt (c : Circuit) : Type 0 where
  pub reads : (k : ℕ) → k < length c.nodes → NodeReadsWithin (length c.nodes) k (node_at c.nodes k)
  pub inputs : input_bits_of c.nodes ≡ input_bits c.ports
  pub outputs : (j : ℕ) (name : List ℕ) (width : ℕ) (pins : List (List ℕ)) (from : List ℕ) → slice_get c.ports j ≡ Some (port.Output name width pins from) → (width ≡ min (length from) (2 ^ 32 - 1)) × All (λ k. k < length c.nodes) from
  pub few_nets : length c.nodes < 2 ^ 32
  pub few_ports : length c.ports < 2 ^ 32
  pub rams : AreRams c.nodes

-- a flip-flop that isn't fed, and a placeholder that isn't driven
abbrev pub IsUnfed : Node → Type 0
IsUnfed (Input p i) = ⊥
IsUnfed (Flop name init None) = Unit {0}
IsUnfed (Flop name init (Some d)) = ⊥
IsUnfed (Wire rank from) = ⊥
IsUnfed (Gate g a b) = ⊥
IsUnfed (Ram rank first ram) = ⊥

abbrev pub IsUndriven : Node → Type 0
IsUndriven (Input p i) = ⊥
IsUndriven (Flop name init d) = ⊥
IsUndriven (Wire rank None) = Unit {0}
IsUndriven (Wire rank (Some d)) = ⊥
IsUndriven (Gate g a b) = ⊥
IsUndriven (Ram rank first ram) = ⊥

-- a flip-flop with its input, a placeholder with its driver, and any other node as it is
abbrev pub reading : ℕ → Node → Node
reading d (Input p i) = Input p i
reading d (Flop name init old) = Flop name init (Some d)
reading d (Wire rank old) = Wire rank (Some d)
reading d (Gate g a b) = Gate g a b
reading d (Ram rank first ram) = Ram rank first ram
