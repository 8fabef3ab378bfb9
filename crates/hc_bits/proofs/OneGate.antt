-- One gate over one or two nets, as a circuit over them.
use Rattle.std.proofs.Common.{◌≡◌, ℕ, List, [], ◌∷◌, length, Result}
use Rattle.std.specs.Prelude.{IfOk}
use Rattle.std.proofs.lemmas.Result.{IfOk-weaker}
use Rattle.hc_net.specs.Circuit.{Circuit, with_node}
use Rattle.hc_net.specs.Gate.{gate_bit}
use Rattle.hc_net.specs.Made.{Makes}
use Rattle.hc_net.specs.MadeLemmas.{GateOver, Makes-gate}
use Rattle.hc_net.specs.declared.node.Node.TheVariants.{Gate}
use Rattle.hc_net.specs.declared.gate.GateKind.{GateKind}
use Rattle.hc_net.specs.declared.nets.NoMemory.{NoMemory}

-- what a builder's gate adds
pub added : (args : List ℕ) (old new : Circuit) (g : GateKind) (a b : ℕ) (result : Result ℕ NoMemory) → GateOver old.nodes args g a b
    → IfOk result (λ net. (net ≡ length old.nodes) × (new ≡ with_node old (Gate g a b)))
    → IfOk result (λ net. Makes 1 args old new (net ∷ []) (λ v. v net ≡ gate_bit g (v a) (v b)))
added args old new g a b result over ok = IfOk-weaker result _ _ (λ net p. Makes-gate args old new g a b net p.0 p.1 over) ok
