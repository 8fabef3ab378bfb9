-- The circuits of the tests.
use Rattle.std.specs.Prelude.{List, [], ◌∷◌, ◌++◌, Some, None, true}
use Rattle.hc_net.specs.Circuit.{Circuit}
use Rattle.hc_net.specs.declared.net.Port.TheVariants as port
use Rattle.hc_net.specs.declared.net.FlopName.TheVariants as name
use Rattle.hc_net.specs.declared.node.Node.{Node}
use Rattle.hc_net.specs.declared.node.Node.TheVariants.{Input, Flop, Wire, Gate}
use Rattle.hc_net.specs.declared.gate.GateKind.TheVariants as kind

-- two input bits, a flip-flop and a placeholder
abbrev pub no_gates : Circuit
no_gates = record {
  clock = 99 ∷ 108 ∷ 107 ∷ [];
  ports = port.Input (97 ∷ []) 2 [] ∷ [];
  nodes = Input 0 0 ∷ Input 0 1 ∷ Flop (name.Token 7) true None ∷ Wire 0 None ∷ [];
}

-- a gate of each kind
abbrev pub gates : List Node
gates = Gate kind.Zero 0 0 ∷ Gate kind.One 0 0 ∷ Gate kind.Not 3 0 ∷ Gate kind.And 0 1 ∷ Gate kind.Or 6 4 ∷ Gate kind.Xor 8 2 ∷ []

-- the same with the gates
abbrev pub open_gates : Circuit
open_gates = record { clock = no_gates.clock; ports = no_gates.ports; nodes = no_gates.nodes ++ gates }

-- the same with the flip-flop fed, the placeholder driven by a later gate, and an output
abbrev pub all_gates : Circuit
all_gates = record {
  clock = no_gates.clock;
  ports = port.Input (97 ∷ []) 2 [] ∷ port.Output (121 ∷ []) 2 [] (3 ∷ 9 ∷ []) ∷ [];
  nodes = Input 0 0 ∷ Input 0 1 ∷ Flop (name.Token 7) true (Some 9) ∷ Wire 0 (Some 7) ∷ gates;
}

-- two placeholders that aren't driven
abbrev pub open_wires : Circuit
open_wires = record {
  clock = 99 ∷ 108 ∷ 107 ∷ [];
  ports = port.Input (97 ∷ []) 1 [] ∷ [];
  nodes = Input 0 0 ∷ Wire 1 None ∷ Wire 0 None ∷ [];
}

-- two placeholders of which the first is driven by what reads the second
abbrev pub two_wires : Circuit
two_wires = record {
  clock = open_wires.clock;
  ports = port.Input (97 ∷ []) 1 [] ∷ port.Output (121 ∷ []) 1 [] (1 ∷ []) ∷ [];
  nodes = Input 0 0 ∷ Wire 1 (Some 3) ∷ Wire 0 (Some 0) ∷ Gate kind.Not 2 0 ∷ [];
}
