-- What a netlist does, clock by clock (the step is this project's own, the gates are those of IEEE 1364).
use Rattle.std.specs.Prelude.{◌≡◌, ◌<◌, ℕ, zero, suc, ◌+◌, List, [], ◌∷◌, ◌++◌, length, map, take, drop, Bool, true, false, not, ◌&&◌, ◌||◌, Some, slice_get, slice_index, slice_index_or}
use Rattle.std.specs.List.{range_with_len}
use Rattle.hc_net.specs.Bits.{bit, number}
use Rattle.hc_net.specs.Gate.{differ}
use Rattle.hc_net.specs.Ram.{read_bits, written}
use Rattle.hc_net.specs.declared.net.Port.{Port}
use Rattle.hc_net.specs.declared.net.Port.TheVariants.{Input, Output}
use Rattle.hc_net.specs.declared.net.FlopName.{FlopName}
use Rattle.hc_net.specs.declared.net.Flop.{Flop}
use Rattle.hc_net.specs.declared.net.Cell.{Cell}
use Rattle.hc_net.specs.declared.net.Cell.TheVariants.{Zero, One, Not, And, Or, Xor, Ram}
use Rattle.hc_net.specs.declared.ram.RamCell.{RamCell}
use Rattle.hc_net.specs.declared.net.RawNet.{RawNet}

-- The inputs of each clock: a number for each input port in order.
abbrev pub Trace : Type 0
Trace = ℕ → List ℕ

-- the bits of the inputs from number p on, in the order of their nets: each input's number and the bit's
abbrev pub input_bits_from : ℕ → List Port → List (ℕ × ℕ)
input_bits_from p [] = []
input_bits_from p (Input name width pins ∷ ports) = map (λ i. (p, i)) (range_with_len 0 width) ++ input_bits_from (p + 1) ports
input_bits_from p (Output name width pins from ∷ ports) = input_bits_from p ports

abbrev pub input_bits : List Port → List (ℕ × ℕ)
input_bits ports = input_bits_from 0 ports

-- the first flip-flop's net, the first cell's net, and the number of nets
abbrev pub flop_base : RawNet → ℕ
flop_base raw = length (input_bits raw.ports)

abbrev pub cell_base : RawNet → ℕ
cell_base raw = flop_base raw + length raw.flops

-- how many nets a cell has: a RAM one for each bit of a word, and a gate one
abbrev pub cell_width : Cell → ℕ
cell_width Zero = 1
cell_width One = 1
cell_width (Not a) = 1
cell_width (And a b) = 1
cell_width (Or a b) = 1
cell_width (Xor a b) = 1
cell_width (Ram r) = r.width

-- those of all cells
abbrev pub cell_nets : List Cell → ℕ
cell_nets [] = 0
cell_nets (c ∷ cells) = cell_width c + cell_nets cells

abbrev pub net_count : RawNet → ℕ
net_count raw = cell_base raw + cell_nets raw.cells

-- the first net of cell j
abbrev pub cell_net : RawNet → ℕ → ℕ
cell_net raw j = cell_base raw + cell_nets (take j raw.cells)

-- 1 for a RAM, else 0
abbrev pub ram_in : Cell → ℕ
ram_in Zero = 0
ram_in One = 0
ram_in (Not a) = 0
ram_in (And a b) = 0
ram_in (Or a b) = 0
ram_in (Xor a b) = 0
ram_in (Ram r) = 1

-- the number of RAMs
abbrev pub ram_count : List Cell → ℕ
ram_count [] = 0
ram_count (c ∷ cells) = ram_in c + ram_count cells

-- 1 for a gate, the constants among them, else 0
abbrev pub gate_in : Cell → ℕ
gate_in Zero = 1
gate_in One = 1
gate_in (Not a) = 1
gate_in (And a b) = 1
gate_in (Or a b) = 1
gate_in (Xor a b) = 1
gate_in (Ram r) = 0

-- the number of gates
abbrev pub gate_count : List Cell → ℕ
gate_count [] = 0
gate_count (c ∷ cells) = gate_in c + gate_count cells

-- the RAMs in their order
abbrev pub rams_of : List Cell → List RamCell
rams_of [] = []
rams_of (Zero ∷ cells) = rams_of cells
rams_of (One ∷ cells) = rams_of cells
rams_of (Not a ∷ cells) = rams_of cells
rams_of (And a b ∷ cells) = rams_of cells
rams_of (Or a b ∷ cells) = rams_of cells
rams_of (Xor a b ∷ cells) = rams_of cells
rams_of (Ram r ∷ cells) = r ∷ rams_of cells

-- A netlist at an edge: the bit of each flip-flop, and what each RAM holds, which is its bits, word 0 and its lowest bit first.
pub record State : Type 0 where
  pub flops : List Bool
  pub words : List (List Bool)

-- what the first of some RAMs holds
abbrev pub first_held : List (List Bool) → List Bool
first_held words = slice_index_or words 0 []

-- what the RAM that is cell j holds
abbrev pub held_of : List Cell → List (List Bool) → ℕ → List Bool
held_of cells words j = slice_index_or words (ram_count (take j cells)) []

-- the bit of a net in a valuation, which is the list of the bits of all nets
abbrev pub net_bit : List Bool → ℕ → Bool
net_bit v k = slice_index_or v k false

-- the outputs of a cell, lowest bit first, where it holds this if it is a RAM
abbrev pub cell_bits : List Bool → List Bool → Cell → List Bool
cell_bits v held Zero = false ∷ []
cell_bits v held One = true ∷ []
cell_bits v held (Not a) = not (net_bit v a) ∷ []
cell_bits v held (And a b) = (net_bit v a && net_bit v b) ∷ []
cell_bits v held (Or a b) = (net_bit v a || net_bit v b) ∷ []
cell_bits v held (Xor a b) = differ (net_bit v a) (net_bit v b) ∷ []
cell_bits v held (Ram r) = read_bits r held (net_bit v)

-- A valuation settles: inputs and flip-flops have their bits, a gate's net is its function of the nets that it reads, and a
-- RAM's nets are the word at its address, or 0 outside.
pub record Settles (raw : RawNet) (state : State) (inputs : List ℕ) (v : List Bool) : Type 0 where
  pub size : length v ≡ net_count raw
  pub input : (j : ℕ) (b : ℕ × ℕ) → slice_get (input_bits raw.ports) j ≡ Some b → net_bit v j ≡ bit (slice_index inputs b.0) b.1
  pub flop : (j : ℕ) (b : Bool) → slice_get state.flops j ≡ Some b → net_bit v (flop_base raw + j) ≡ b
  pub cell : (j i : ℕ) (c : Cell) → slice_get raw.cells j ≡ Some c → i < cell_width c → net_bit v (cell_net raw j + i) ≡ slice_index_or (cell_bits v (held_of raw.cells state.words j) c) i false

-- the bits of cells, each from the nets before it
abbrev pub with_cells : List Cell → List (List Bool) → List Bool → List Bool
with_cells [] words v = v
with_cells (c ∷ cells) words v = with_cells cells (drop (ram_in c) words) (v ++ cell_bits v (first_held words) c)

-- the valuation of a clock
abbrev pub settled : RawNet → State → List ℕ → List Bool
settled raw state inputs = with_cells raw.cells state.words (map (λ b. bit (slice_index inputs b.0) b.1) (input_bits raw.ports) ++ state.flops)

-- what RAMs hold after an edge, from the bits of the nets before it
abbrev pub next_words : List RamCell → List (List Bool) → (ℕ → Bool) → List (List Bool)
next_words [] words v = []
next_words (r ∷ rams) words v = written r (first_held words) v ∷ next_words rams (drop 1 words) v

-- a netlist at edge 0
abbrev pub first_state : RawNet → State
first_state raw = record { flops = map (λ f. f.init) raw.flops; words = map (λ r. r.init) (rams_of raw.cells) }

-- a netlist after an edge: each flip-flop takes the bit of the net that it reads, and each RAM writes
abbrev pub next_state : RawNet → State → List Bool → State
next_state raw state v = record { flops = map (λ f. net_bit v f.d) raw.flops; words = next_words (rams_of raw.cells) state.words (net_bit v) }

-- a netlist at an edge
abbrev pub state_at : RawNet → Trace → ℕ → State
state_at raw trace zero = first_state raw
state_at raw trace (suc t) = next_state raw (state_at raw trace t) (settled raw (state_at raw trace t) (trace t))

-- the bits of all nets in a clock
abbrev pub values_at : RawNet → Trace → ℕ → List Bool
values_at raw trace t = settled raw (state_at raw trace t) (trace t)

-- the numbers of the outputs, by the bits of the nets
abbrev pub output_numbers : List Port → (ℕ → Bool) → List ℕ
output_numbers [] v = []
output_numbers (Input name width pins ∷ ports) v = output_numbers ports v
output_numbers (Output name width pins from ∷ ports) v = number (map v from) ∷ output_numbers ports v

-- the outputs in a clock
abbrev pub outputs_at : RawNet → Trace → ℕ → List ℕ
outputs_at raw trace t = output_numbers raw.ports (net_bit (values_at raw trace t))

-- exactly one flip-flop has this name, and it holds this bit
pub record HoldsBit (flops : List Flop) (state : State) (name : FlopName) (b : Bool) : Type 0 where
  pub at : ℕ
  pub flop : Flop
  pub there : slice_get flops at ≡ Some flop
  pub named : flop.name ≡ name
  pub only : (j : ℕ) (f : Flop) → slice_get flops j ≡ Some f → f.name ≡ name → j ≡ at
  pub holds : slice_get state.flops at ≡ Some b

-- this is the only RAM of its object, and it holds these words
pub record HoldsWords (rams : List RamCell) (state : State) (ram : RamCell) (held : List Bool) : Type 0 where
  pub at : ℕ
  pub there : slice_get rams at ≡ Some ram
  pub only : (j : ℕ) (r : RamCell) → slice_get rams j ≡ Some r → r.object ≡ ram.object → j ≡ at
  pub holds : slice_get state.words at ≡ Some held
