-- The circuit of the tests: a RAM of three words of three bits with its address, write net and data as inputs and its word as output.
use Rattle.std.specs.Prelude.{◌≡◌, List, [], ◌∷◌, ◌++◌, Bool, Some, None, true, false}
use Rattle.hc_stim.specs.Bench.{Meaning}
use Rattle.hc_net.specs.Circuit.{Circuit, last_rank}
use Rattle.hc_net.specs.declared.net.Port.{Port}
use Rattle.hc_net.specs.declared.net.Port.TheVariants as port
use Rattle.hc_net.specs.declared.node.Node.{Node}
use Rattle.hc_net.specs.declared.node.Node.TheVariants.{Input, Wire, Ram}
use Rattle.hc_net.specs.declared.ram.RamCell.{RamCell}

-- the words 1, 6 and 3, lowest bit first
abbrev pub first_words : List Bool
first_words = true ∷ false ∷ false ∷ false ∷ true ∷ true ∷ true ∷ true ∷ false ∷ []

-- the address, the write net and the data
abbrev pub inputs : List Port
inputs = port.Input (97 ∷ []) 2 [] ∷ port.Input (119 ∷ []) 1 [] ∷ port.Input (100 ∷ []) 3 [] ∷ []

abbrev pub input_nodes : List Node
input_nodes = Input 0 0 ∷ Input 0 1 ∷ Input 1 0 ∷ Input 2 0 ∷ Input 2 1 ∷ Input 2 2 ∷ []

abbrev pub only_inputs : Circuit
only_inputs = record { clock = 99 ∷ []; ports = inputs; nodes = input_nodes }

-- the RAM, and the nets of its word
abbrev pub cell : RamCell
cell = record { object = 5; words = 3; width = 3; init = first_words; addr = 6 ∷ 7 ∷ []; we = 8; d = 9 ∷ 10 ∷ 11 ∷ [] }

abbrev pub outputs : List Node
outputs = Ram 0 12 (Some cell) ∷ Ram 0 12 None ∷ Ram 0 12 None ∷ []

abbrev pub open_memory : Circuit
open_memory = record {
  clock = 99 ∷ [];
  ports = inputs;
  nodes = input_nodes ++ (Wire 0 None ∷ Wire 0 None ∷ Wire last_rank None ∷ Wire last_rank None ∷ Wire last_rank None ∷ Wire last_rank None ∷ []) ++ outputs;
}

abbrev pub memory : Circuit
memory = record {
  clock = 99 ∷ [];
  ports = inputs ++ port.Output (113 ∷ []) 3 [] (12 ∷ 13 ∷ 14 ∷ []) ∷ [];
  nodes = input_nodes ++ (Wire 0 (Some 0) ∷ Wire 0 (Some 1) ∷ Wire last_rank (Some 2) ∷ Wire last_rank (Some 3) ∷ Wire last_rank (Some 4) ∷ Wire last_rank (Some 5) ∷ []) ++ outputs;
}

-- a bench with these inputs and an output
pub record HasPins {S : Type 0} (b : Meaning S) : Type 0 where
  pub widths : b.widths ≡ 2 ∷ 1 ∷ 3 ∷ []
  pub outputs : b.outputs ≡ 1
