-- A netlist that runs: what it has at an edge, and what a clock makes of it (the step is this project's own).
use Rattle.std.specs.Prelude.{◌≡◌, ◌<◌, ℕ, ◌+◌, List, [], ◌∷◌, length, map, Bool}
use Rattle.std.specs.List.{range_with_len}
use Rattle.hc_stim.specs.Bench.{Outcome, Done, Meaning}
use Rattle.hc_net.specs.Bits.{number}
use Rattle.hc_net.specs.Ram.{word_bit}
use Rattle.hc_net.specs.Run.{State, net_bit, net_count, next_state, settled, output_numbers, rams_of, HoldsWords}
use Rattle.hc_net.specs.Valid.{IsValid}
use Rattle.hc_net.specs.declared.net.Port.{Port}
use Rattle.hc_net.specs.declared.net.Port.TheVariants.{Input, Output}
use Rattle.hc_net.specs.declared.net.RawNet.{RawNet}
use Rattle.hc_net.specs.declared.ram.RamCell.{RamCell}
use Rattle.hc_netsim.specs.Held.{Held}

-- a netlist with the bit of each flip-flop and what each RAM holds
pub record Running : Type 0 where
  pub net : RawNet
  pub state : State

-- the width of each input
abbrev pub input_widths : List Port → List ℕ
input_widths [] = []
input_widths (Input name width pins ∷ ports) = width ∷ input_widths ports
input_widths (Output name width pins from ∷ ports) = input_widths ports

-- the number of outputs
abbrev pub output_count : List Port → ℕ
output_count [] = 0
output_count (Input name width pins ∷ ports) = output_count ports
output_count (Output name width pins from ∷ ports) = output_count ports + 1

-- a clock: the outputs are the numbers on their nets, each flip-flop takes the bit of the net that it reads, and each RAM writes
abbrev pub step : RawNet → State → List ℕ → Outcome State
step raw state inputs = Done (output_numbers raw.ports (net_bit (settled raw state inputs))) (next_state raw state (settled raw state inputs))

-- a running netlist as a bench
abbrev pub meaning_of : Running → Meaning State
meaning_of g = record { widths = input_widths g.net.ports; outputs = output_count g.net.ports; state = g.state; step = step g.net }

-- the state of these flip-flops and RAMs
abbrev pub state_of : List Bool → List Held → State
state_of bits memories = record { flops = bits; words = map (λ m. m.bits) memories }

-- a bit for each flip-flop, each RAM in its order, and room for the bit of each net
pub record HasRoom (raw : RawNet) (bits : List Bool) (memories : List Held) (values : List Bool) : Type 0 where
  pub valid : IsValid raw
  pub flops : length bits ≡ length raw.flops
  pub rams : map (λ m. m.ram) memories ≡ rams_of raw.cells
  pub nets : length values ≡ net_count raw

-- this number is the word at this index of the RAM of this object, which is the only one of its object
pub record HoldsWord (rams : List RamCell) (state : State) (object index n : ℕ) : Type 0 where
  pub ram : RamCell
  pub bits : List Bool
  pub holds : HoldsWords rams state ram bits
  pub named : ram.object ≡ object
  pub inside : index < ram.words
  pub word : n ≡ number (map (word_bit bits ram.width index) (range_with_len 0 ram.width))
