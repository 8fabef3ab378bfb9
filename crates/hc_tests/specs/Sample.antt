-- The circuit of a test.
use Rattle.std.specs.Prelude.{[], ◌∷◌, Some, false}
use Rattle.hc_net.specs.Circuit.{Circuit}
use Rattle.hc_net.specs.declared.net.Port.TheVariants as port
use Rattle.hc_net.specs.declared.net.FlopName.TheVariants as name
use Rattle.hc_net.specs.declared.node.Node.TheVariants.{Input, Flop, Gate}
use Rattle.hc_net.specs.declared.gate.GateKind.TheVariants as kind

-- an input that reaches a flip-flop through a gate, and an output
abbrev pub small : Circuit
small = record {
  clock = 99 ∷ 108 ∷ 107 ∷ [];
  ports = port.Input (105 ∷ []) 1 [] ∷ port.Output (111 ∷ []) 1 [] (1 ∷ []) ∷ [];
  nodes = Input 0 0 ∷ Flop (name.Bit 0 0) false (Some 2) ∷ Gate kind.Not 0 0 ∷ [];
}
