use Rattle.std.proofs.Common.{◌≡◌, ◌∙◌, ap, ap₂, arith, length, List, Bool}
use Rattle.hc_net.specs.Circuit.{Circuit, with_ram}
use Rattle.hc_circuit_tests.proofs.Sealed.{index_is, with_memory}
use Rattle.hc_circuit_tests.proofs.memory.open_memory.Goals as goal

pub ram-requires-clause-room : goal.ram-requires-clause-room
ram-requires-clause-room c =
    let nodes : length c.in_ok-b.b.nodes ≡ 6 = ap (λ (b : Circuit). length b.nodes) c.in_ok-b.ensures in
    let width = index_is in
    omega arith

pub returns : goal.returns
returns c = c.in_ok-ram.ensures.ok.1 ∙ ap₂ (λ (b : Circuit) (init : List Bool). with_ram b 5 3 3 init 0) c.in_ok-b.ensures c.in_ok-init.ensures ∙ with_memory
