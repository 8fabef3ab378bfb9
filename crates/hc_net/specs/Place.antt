-- The nets of a netlist that stand for the nets of a builder.
use Rattle.std.specs.Prelude.{◌≡◌, ◌≢◌, ◌<◌, ℕ, ◌+◌, ◌-◌, All, List, [], ◌∷◌, length, take, Option, Some, None, is_some, IsSome, unwrap_or, slice_get, slice_index_or, if◌then◌else◌}
use Rattle.hc_net.specs.Circuit.{node_at, input_bits_of, flops_of, gates_of, memories_of, nets_of_cells}
use Rattle.hc_net.specs.Order.{GateReads}
use Rattle.hc_net.specs.Ram.{moved}
use Rattle.hc_net.specs.Run.{cell_nets, gate_count, ram_count, rams_of}
use Rattle.hc_net.specs.declared.net.Flop.{Flop as FlopData}
use Rattle.hc_net.specs.declared.net.Cell.{Cell}
use Rattle.hc_net.specs.declared.net.Cell.TheVariants as cell
use Rattle.hc_net.specs.declared.node.Node.{Node}
use Rattle.hc_net.specs.declared.node.Node.TheVariants.{Input, Flop, Wire, Gate, Ram}
use Rattle.hc_net.specs.declared.ram.RamCell.{RamCell}
use Rattle.hc_net.specs.declared.gate.GateKind.{GateKind}
use Rattle.hc_net.specs.declared.gate.GateKind.TheVariants as kind

-- the place of a net, if it has one yet
abbrev pub place_at : List (Option ℕ) → ℕ → Option ℕ
place_at places k = slice_index_or places k None

-- the place of a net; one that isn't there stands as 0
abbrev pub place_of : List (Option ℕ) → ℕ → ℕ
place_of places k = unwrap_or (place_at places k) 0

-- the number of input bits and flip-flops, whose nets stand before those of cells
abbrev pub base_of : List Node → ℕ
base_of nodes = length (input_bits_of nodes) + length (flops_of nodes)

-- the place of an input bit or a flip-flop, from the next of each
abbrev pub place_from : ℕ → ℕ → Node → Option ℕ
place_from input flop (Input p i) = Some input
place_from input flop (Flop name init d) = Some flop
place_from input flop (Wire rank from) = None
place_from input flop (Gate g a b) = None
place_from input flop (Ram rank first ram) = None

-- the same from the nodes before it
abbrev pub first_place : List Node → ℕ → Node → Option ℕ
first_place nodes k node = place_from (length (input_bits_of (take k nodes))) (length (input_bits_of nodes) + length (flops_of (take k nodes))) node

-- input bits and flip-flops alone have places
pub record AreFirst (nodes : List Node) (places : List (Option ℕ)) : Type 0 where
  pub size : length places ≡ length nodes
  pub each : (k : ℕ) → k < length nodes → place_at places k ≡ first_place nodes k (node_at nodes k)

-- a gate with the nets that it reads
abbrev pub cell_of : GateKind → ℕ → ℕ → Cell
cell_of kind.Zero a b = cell.Zero
cell_of kind.One a b = cell.One
cell_of kind.Not a b = cell.Not a
cell_of kind.And a b = cell.And a b
cell_of kind.Or a b = cell.Or a b
cell_of kind.Xor a b = cell.Xor a b

-- net p is that of a cell which is this gate with its inputs renamed
pub record HasCell (nodes : List Node) (places : List (Option ℕ)) (cells : List Cell) (p : ℕ) (g : GateKind) (a b : ℕ) : Type 0 where
  pub at : ℕ
  pub net : p ≡ base_of nodes + cell_nets (take at cells)
  pub there : slice_get cells at ≡ Some (cell_of g (place_of places a) (place_of places b))
  pub reads : GateReads (λ k. IsSome (place_at places k)) g a b

-- net p is the first of this RAM, whose pins aren't renamed yet
pub record HasRam (nodes : List Node) (cells : List Cell) (p : ℕ) (r : RamCell) : Type 0 where
  pub at : ℕ
  pub net : p ≡ base_of nodes + cell_nets (take at cells)
  pub there : slice_get cells at ≡ Some (cell.Ram r)

-- net p stands for net k
abbrev pub IsPlace : List Node → List (Option ℕ) → List Cell → ℕ → ℕ → Node → Type 0
IsPlace nodes places cells k p (Input q i) = p ≡ length (input_bits_of (take k nodes))
IsPlace nodes places cells k p (Flop name init d) = p ≡ length (input_bits_of nodes) + length (flops_of (take k nodes))
IsPlace nodes places cells k p (Wire rank None) = ⊥
IsPlace nodes places cells k p (Wire rank (Some d)) = place_at places d ≡ Some p
IsPlace nodes places cells k p (Gate g a b) = HasCell nodes places cells p g a b
IsPlace nodes places cells k p (Ram rank first None) = (q : ℕ) × (place_at places first ≡ Some q) × (p ≡ q + (k - first))
IsPlace nodes places cells k p (Ram rank first (Some r)) = HasRam nodes cells p r

-- the sum of a number over the nodes that have a place
abbrev pub over_placed : (Node → ℕ) → List Node → List (Option ℕ) → ℕ
over_placed f [] places = 0
over_placed f (node ∷ nodes) [] = 0
over_placed f (node ∷ nodes) (place ∷ places) = (if is_some place then f node else 0) + over_placed f nodes places

-- a cell reads nets that have places below n: a gate its inputs, which are renamed, and a RAM its address nets, which aren't yet
abbrev pub ReadsPlaced : List (Option ℕ) → ℕ → Cell → Type 0
ReadsPlaced places n (cell.Ram r) = All (λ k. (p : ℕ) × (place_at places k ≡ Some p) × (p < n)) r.addr
ReadsPlaced places n cell.Zero = Unit {0}
ReadsPlaced places n cell.One = Unit {0}
ReadsPlaced places n (cell.Not a) = a < n
ReadsPlaced places n (cell.And a b) = (a < n) × (b < n)
ReadsPlaced places n (cell.Or a b) = (a < n) × (b < n)
ReadsPlaced places n (cell.Xor a b) = (a < n) × (b < n)

-- RAM i of the cells is that of a node which has a place
pub record IsFrom (nodes : List Node) (places : List (Option ℕ)) (k : ℕ) (r : RamCell) : Type 0 where
  pub rank : ℕ
  pub first : ℕ
  pub node : node_at nodes k ≡ Ram rank first (Some r)
  pub placed : IsSome (place_at places k)

-- the nodes of the RAMs among the cells, no two alike
pub record AreFrom (nodes : List Node) (places : List (Option ℕ)) (rams : List RamCell) : Type 0 where
  pub sources : List ℕ
  pub size : length sources ≡ length rams
  pub each : (i k : ℕ) (r : RamCell) → slice_get sources i ≡ Some k → slice_get rams i ≡ Some r → IsFrom nodes places k r
  pub apart : (i j k l : ℕ) → i < j → slice_get sources i ≡ Some k → slice_get sources j ≡ Some l → k ≢ l

-- the nets that have places so far, with the cells so far
pub record ArePlaces (nodes : List Node) (places : List (Option ℕ)) (cells : List Cell) : Type 0 where
  pub size : length places ≡ length nodes
  pub below : (k p : ℕ) → place_at places k ≡ Some p → p < base_of nodes + cell_nets cells
  pub each : (k p : ℕ) → place_at places k ≡ Some p → IsPlace nodes places cells k p (node_at nodes k)
  pub first : (k : ℕ) → k < length nodes → IsSome (first_place nodes k (node_at nodes k)) → IsSome (place_at places k)
  pub count : gate_count cells ≡ over_placed (λ n. gates_of (n ∷ [])) nodes places
  pub rams : ram_count cells ≡ over_placed (λ n. length (memories_of (n ∷ []))) nodes places
  pub nets : cell_nets cells ≡ over_placed (λ n. nets_of_cells (n ∷ [])) nodes places
  pub earlier : (j : ℕ) (c : Cell) → slice_get cells j ≡ Some c → ReadsPlaced places (base_of nodes + cell_nets (take j cells)) c
  pub from : AreFrom nodes places (rams_of cells)

-- each net has a place
abbrev pub AllPlaced : List Node → List (Option ℕ) → Type 0
AllPlaced nodes places = (k : ℕ) → k < length nodes → IsSome (place_at places k)

-- the flip-flops in order, with their inputs renamed
abbrev pub flops_with : (ℕ → ℕ) → List Node → List FlopData
flops_with place [] = []
flops_with place (Input p i ∷ nodes) = flops_with place nodes
flops_with place (Flop name init d ∷ nodes) = record { name = name; init = init; d = place (unwrap_or d 0) } ∷ flops_with place nodes
flops_with place (Wire rank from ∷ nodes) = flops_with place nodes
flops_with place (Gate g a b ∷ nodes) = flops_with place nodes
flops_with place (Ram rank first ram ∷ nodes) = flops_with place nodes

-- a RAM with its nets renamed, and a gate as it is
abbrev pub with_moved_ram : (ℕ → ℕ) → Cell → Cell
with_moved_ram place cell.Zero = cell.Zero
with_moved_ram place cell.One = cell.One
with_moved_ram place (cell.Not a) = cell.Not a
with_moved_ram place (cell.And a b) = cell.And a b
with_moved_ram place (cell.Or a b) = cell.Or a b
with_moved_ram place (cell.Xor a b) = cell.Xor a b
with_moved_ram place (cell.Ram r) = cell.Ram (moved place r)
