use Rattle.std.proofs.Common.{◌+◌, ◌∙◌, ◌∷◌, [], ap, length, arith}
use Rattle.hc_net.specs.Circuit.{input_bits_of, flops_of}
use Rattle.hc_net.specs.Place.{place_from}
use Rattle.hc_net.specs.declared.node.Node.{Node}
use Rattle.hc_net.proofs.Counts.{count_step, inputs_front, counts_le}
use Rattle.hc_net.proofs.seal.places.count_inputs.Goals as goal

pub overflow_add-count : goal.overflow_add-count
overflow_add-count c =
    let next = count_step c.args.nodes.now c.loop-node.node-index c.loop-node.count c.inputs_in-count.result _ c.loop-node-test.true (c.inputs_in-count.ensures ∙ ap (λ (n : Node). length (input_bits_of (n ∷ []))) c.node-item.is) c.loop-node.invariant in
    omega (arith, inputs_front c.args.nodes.now (c.loop-node.node-index + 1), counts_le c.args.nodes.now)

pub loop-node-preserved : goal.loop-node-preserved
loop-node-preserved c = count_step c.args.nodes.now c.loop-node.node-index c.loop-node.count c.inputs_in-count.result _ c.loop-node-test.true (c.inputs_in-count.ensures ∙ ap (λ (n : Node). length (input_bits_of (n ∷ []))) c.node-item.is) c.loop-node.invariant
