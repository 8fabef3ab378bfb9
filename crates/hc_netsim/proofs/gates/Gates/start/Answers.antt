use Rattle.std.proofs.Common.{ap}
use Rattle.hc_net.specs.Run.{State}
use Rattle.hc_netsim.proofs.Walk.{starts}
use Rattle.hc_netsim.proofs.gates.Gates.start.Goals as goal

pub invariant_of-result : goal.invariant_of-result
invariant_of-result c =
    (starts c.args.net.now c.raw-raw.result.now c.as_slice.result.now c.as_slice-2.result.now c.in_ok-state.state.items c.in_ok-values.values.items c.in_ok-memories.memories.items
    c.raw-raw.ensures.raw c.raw-raw.ensures.valid c.as_slice.ensures c.as_slice-2.ensures c.in_ok-state.ensures c.in_ok-memories.ensures c.in_ok-values.ensures).0

pub returns : goal.returns
returns c =
    ap (λ (s : State). record { net = c.args.net.now; state = s })
    (starts c.args.net.now c.raw-raw.result.now c.as_slice.result.now c.as_slice-2.result.now c.in_ok-state.state.items c.in_ok-values.values.items c.in_ok-memories.memories.items
    c.raw-raw.ensures.raw c.raw-raw.ensures.valid c.as_slice.ensures c.as_slice-2.ensures c.in_ok-state.ensures c.in_ok-memories.ensures c.in_ok-values.ensures).1
