-- When a netlist does what a core does: the statement that the whole compiler stands on.
use Rattle.std.specs.Prelude.{◌≡◌, ◌<◌, ◌≤◌, ℕ, ◌+◌, ◌*◌, List, [], ◌∷◌, length, map, Bool, true, false, slice_get, slice_index_or}
use Rattle.std.specs.List.{flat_map, sum_by}
use Rattle.hc_core.specs.Typed.{kinds_of, kind_width}
use Rattle.hc_core.specs.Weight.{weight_of, flops_of}
use Rattle.hc_core.specs.declared.object.Kind.{Kind}
use Rattle.hc_core.specs.declared.object.Kind.TheVariants as kind
use Rattle.hc_core.specs.declared.object.Object.{Object}
use Rattle.hc_core.specs.declared.object.Core.{Core}
use Rattle.hc_meaning.specs.Value.{Store, words}
use Rattle.hc_meaning.specs.Clock.{register_cells, memory_words}
use Rattle.hc_meaning.specs.Run.{Run}
use Rattle.hc_net.specs.Bits.{bit}
use Rattle.hc_net.specs.Ram.{word_bit}
use Rattle.hc_net.specs.Run.{Trace, State, HoldsBit, HoldsWords, state_at, outputs_at, rams_of, gate_count, ram_count}
use Rattle.hc_net.specs.declared.net.Port.{Port}
use Rattle.hc_net.specs.declared.net.Port.TheVariants.{Input, Output}
use Rattle.hc_net.specs.declared.net.FlopName.TheVariants.{Bit}
use Rattle.hc_net.specs.declared.net.RawNet.{RawNet}
use Rattle.hc_net.specs.declared.ram.RamCell.{RamCell}

-- An object of so many words of this width has exactly one RAM, of its number and sizes, and it holds these numbers.
pub record HoldsMemory (rams : List RamCell) (state : State) (object count width : ℕ) (numbers : List ℕ) : Type 0 where
  pub ram : RamCell
  pub held : List Bool
  pub named : ram.object ≡ object
  pub sized : (ram.words ≡ count) × (ram.width ≡ width)
  pub holds : HoldsWords rams state ram held
  pub bits : (e i : ℕ) → e < count → i < width → word_bit held width e i ≡ bit (slice_index_or numbers e 0) i

-- Each bit of each register and of each element of an array has exactly one flip-flop, and it holds the bit. Bit i of
-- element e of w bits is bit e * w + i of the array; a register is its own element 0. Each RAM and each ROM has exactly one
-- RAM cell, and it holds its words.
pub record Same (kinds : List Kind) (store : Store) (raw : RawNet) (state : State) : Type 0 where
  pub bits : (k e i : ℕ) → e < register_cells (slice_get kinds k) → i < kind_width (slice_get kinds k)
      → HoldsBit raw.flops state (Bit k (e * kind_width (slice_get kinds k) + i)) (bit (slice_index_or (words store k) e 0) i)
  pub memories : (k : ℕ) → 0 < memory_words (slice_get kinds k)
      → HoldsMemory (rams_of raw.cells) state k (memory_words (slice_get kinds k)) (kind_width (slice_get kinds k)) (words store k)

-- what a port shows outside: whether it is an output, its name, its width and its pins
pub record Shape : Type 0 where
  pub is_output : Bool
  pub name : List ℕ
  pub width : ℕ
  pub pins : List (List ℕ)

abbrev pub shape_of : Port → Shape
shape_of (Input name width pins) = record { is_output = false; name = name; width = width; pins = pins }
shape_of (Output name width pins from) = record { is_output = true; name = name; width = width; pins = pins }

-- the port that an object makes, if it is one
abbrev pub shapes_by : List ℕ → Kind → List Shape
shapes_by name (kind.Reg w s init) = []
shapes_by name (kind.Array w s n init) = []
shapes_by name (kind.Ram w s n init) = []
shapes_by name (kind.Rom w s n init) = []
shapes_by name (kind.Signal w s unset) = []
shapes_by name (kind.Chan w s queue) = []
shapes_by name (kind.Input w s pins) = record { is_output = false; name = name; width = w; pins = pins } ∷ []
shapes_by name (kind.Output w s pins value) = record { is_output = true; name = name; width = w; pins = pins } ∷ []

-- the ports that the objects of a core make, in order
abbrev pub shapes_of : List Object → List Shape
shapes_of objects = flat_map (λ o. shapes_by o.name o.kind) objects

-- The clock pin and the ports are those of the core.
pub record SamePorts (core : Core) (raw : RawNet) : Type 0 where
  pub clock : raw.clock ≡ core.clock
  pub ports : map shape_of raw.ports ≡ shapes_of core.objects

-- The netlist does what the core does: on every trace, for every number of clocks that are clean, it holds what the
-- registers, arrays and memories hold at every edge, and shows the outputs in every clock.
pub record Implements (core : Core) (raw : RawNet) : Type 0 where
  pub same_ports : SamePorts core raw
  pub same : (trace : Trace) (n : ℕ) (run : Run core trace n) (t : ℕ) → t ≤ n
      → Same (kinds_of core.objects) (run.state t).store raw (state_at raw trace t)
  pub outputs : (trace : Trace) (n : ℕ) (run : Run core trace n) (t : ℕ) → t < n
      → run.shown t ≡ outputs_at raw trace t

-- 1 for a RAM and a ROM, else 0
abbrev pub memory_in : Kind → ℕ
memory_in (kind.Reg w s init) = 0
memory_in (kind.Array w s n init) = 0
memory_in (kind.Ram w s n init) = 1
memory_in (kind.Rom w s n init) = 1
memory_in (kind.Signal w s unset) = 0
memory_in (kind.Chan w s queue) = 0
memory_in (kind.Input w s pins) = 0
memory_in (kind.Output w s pins value) = 0

-- A netlist of a core: it does what the core does, with at most as many gates as the core weighs, no more flip-flops than its
-- objects and its control have, and one RAM cell for each RAM and ROM.
pub record IsNetlistOf (core : Core) (raw : RawNet) : Type 0 where
  pub implements : Implements core raw
  pub gates : gate_count raw.cells ≤ weight_of core
  pub flops : length raw.flops ≤ flops_of core
  pub rams : ram_count raw.cells ≡ sum_by memory_in (kinds_of core.objects)
