-- The circuit of the tests: a counter of four bits that starts at 14 and adds an input of two bits, with its lower half as output.
use Rattle.std.specs.Prelude.{◌≡◌, List, [], ◌∷◌, ◌++◌, Some, None, true, false}
use Rattle.hc_stim.specs.Bench.{Meaning}
use Rattle.hc_net.specs.Circuit.{Circuit}
use Rattle.hc_net.specs.declared.net.Port.TheVariants as port
use Rattle.hc_net.specs.declared.net.FlopName.TheVariants as name
use Rattle.hc_net.specs.declared.node.Node.{Node}
use Rattle.hc_net.specs.declared.node.Node.TheVariants.{Input, Flop, Gate}
use Rattle.hc_net.specs.declared.gate.GateKind.TheVariants as kind

-- the input, and the flip-flops that aren't fed
abbrev pub open_flops : Circuit
open_flops = record {
  clock = 99 ∷ [];
  ports = port.Input (97 ∷ []) 2 [] ∷ [];
  nodes = Input 0 0 ∷ Input 0 1
      ∷ Flop (name.Bit 0 0) false None ∷ Flop (name.Bit 0 1) true None ∷ Flop (name.Bit 0 2) true None ∷ Flop (name.Bit 0 3) true None
      ∷ [];
}

-- the gates of the two lower bits, and those of the two higher
abbrev pub low_gates : List Node
low_gates = Gate kind.Xor 0 2 ∷ Gate kind.And 0 2
    ∷ Gate kind.Xor 1 3 ∷ Gate kind.Xor 8 7 ∷ Gate kind.And 1 3 ∷ Gate kind.And 8 7 ∷ Gate kind.Or 10 11 ∷ []

abbrev pub high_gates : List Node
high_gates = Gate kind.Xor 4 12 ∷ Gate kind.And 4 12 ∷ Gate kind.Xor 5 14 ∷ []

abbrev pub with_low : Circuit
with_low = record { clock = open_flops.clock; ports = open_flops.ports; nodes = open_flops.nodes ++ low_gates }

abbrev pub with_high : Circuit
with_high = record { clock = open_flops.clock; ports = open_flops.ports; nodes = with_low.nodes ++ high_gates }

abbrev pub counter : Circuit
counter = record {
  clock = open_flops.clock;
  ports = port.Input (97 ∷ []) 2 [] ∷ port.Output (113 ∷ []) 2 [] (2 ∷ 3 ∷ []) ∷ [];
  nodes = (Input 0 0 ∷ Input 0 1
      ∷ Flop (name.Bit 0 0) false (Some 6) ∷ Flop (name.Bit 0 1) true (Some 9) ∷ Flop (name.Bit 0 2) true (Some 13) ∷ Flop (name.Bit 0 3) true (Some 15)
      ∷ []) ++ low_gates ++ high_gates;
}

-- a bench with an input of two bits and an output
pub record HasPorts {S : Type 0} (b : Meaning S) : Type 0 where
  pub widths : b.widths ≡ 2 ∷ []
  pub outputs : b.outputs ≡ 1
