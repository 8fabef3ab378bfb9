use Rattle.std.proofs.Common.{◌+◌, ap, arith, length, drop}
use Rattle.hc_net.specs.Run.{input_bits}
use Rattle.hc_net.specs.declared.net.Port.TheVariants.{Input}
use Rattle.hc_netsim.proofs.Passes.{at_item, input_size, same_size}
use Rattle.hc_netsim.proofs.room.input_nets.Goals as goal

pub loop-port-preserved : goal.loop-port-preserved
loop-port-preserved c =
    let rest = drop (c.loop-port.port-index + 1) c.args.ports.now in
    let port = Input c.in-Input.name c.in-Input.width c.in-Input.pins in
    let here = at_item c.args.ports.now c.loop-port.port-index c.port-item.result port c.loop-port-test.true c.port-item.is c.in-Input.is in
    let size = ap (λ ports. length (input_bits ports)) here in
    let first = input_size 0 c.in-Input.width c.in-Input.name c.in-Input.pins rest in
    let same = same_size 1 0 rest in
    omega arith
