use Rattle.std.proofs.Common.{arith, ap, ◌∙◌}
use Rattle.hc_net.specs.Order.{node_level}
use Rattle.hc_net.proofs.Levels.{levels_pushed}
use Rattle.hc_net.proofs.seal.order.levels.Goals as goal

pub loop-node-preserved : goal.loop-node-preserved
loop-node-preserved c =
    let pushed = levels_pushed c.args.nodes.now c.loop-node.levels.items c.push.new.self.items c.loop-node.node-index _ _ c.as_slice.result.now c.node_level.result c.requires.gates c.loop-node-test.true c.loop-node.invariant.size c.loop-node.invariant.each c.as_slice.ensures.value (c.node_level.ensures ∙ ap (node_level c.as_slice.result.now) c.node-item.is) (omega arith) c.in-Ok-push.ensures.items in
    record { size = pushed.0; each = pushed.1 }
