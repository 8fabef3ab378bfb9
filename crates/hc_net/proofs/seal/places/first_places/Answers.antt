use Rattle.std.proofs.Common.{◌+◌, ◌∙◌, ◌∷◌, [], ap, length, arith}
use Rattle.hc_net.specs.Circuit.{input_bits_of, flops_of}
use Rattle.hc_net.specs.Place.{place_from}
use Rattle.hc_net.specs.declared.node.Node.{Node}
use Rattle.hc_net.proofs.Counts.{count_step, flop_step, first_places_step, inputs_front, flops_front, counts_le}
use Rattle.hc_net.proofs.seal.places.first_places.Goals as goal

pub overflow_add-input : goal.overflow_add-input
overflow_add-input c =
    let next = count_step c.args.nodes.now c.loop-node.node-index c.loop-node.input c.inputs_in-input.result _ c.loop-node-test.true (c.inputs_in-input.ensures ∙ ap (λ (n : Node). length (input_bits_of (n ∷ []))) c.node-item.is) c.loop-node.invariant.input in
    omega (arith, inputs_front c.args.nodes.now (c.loop-node.node-index + 1), counts_le c.args.nodes.now)

pub overflow_add-flop : goal.overflow_add-flop
overflow_add-flop c =
    let next = flop_step c.args.nodes.now c.loop-node.node-index _ c.loop-node.flop c.flops_in-flop.result _ c.loop-node-test.true (c.flops_in-flop.ensures ∙ ap (λ (n : Node). length (flops_of (n ∷ []))) c.node-item.is) c.loop-node.invariant.flop in
    omega (arith, flops_front c.args.nodes.now (c.loop-node.node-index + 1), counts_le c.args.nodes.now)

pub loop-node-preserved : goal.loop-node-preserved
loop-node-preserved c =
    let pushed = first_places_step c.args.nodes.now c.loop-node.places.items c.push.new.self.items c.place_from.result c.loop-node.node-index c.loop-node.input c.loop-node.flop _ c.loop-node-test.true c.loop-node.invariant.size c.loop-node.invariant.each c.loop-node.invariant.input c.loop-node.invariant.flop (c.place_from.ensures ∙ ap (place_from c.loop-node.input c.loop-node.flop) c.node-item.is) c.in-Ok-push.ensures.items in
    record {
      input = count_step c.args.nodes.now c.loop-node.node-index c.loop-node.input c.inputs_in-input.result _ c.loop-node-test.true (c.inputs_in-input.ensures ∙ ap (λ (n : Node). length (input_bits_of (n ∷ []))) c.node-item.is) c.loop-node.invariant.input;
      flop = flop_step c.args.nodes.now c.loop-node.node-index _ c.loop-node.flop c.flops_in-flop.result _ c.loop-node-test.true (c.flops_in-flop.ensures ∙ ap (λ (n : Node). length (flops_of (n ∷ []))) c.node-item.is) c.loop-node.invariant.flop;
      size = pushed.0;
      each = pushed.1;
    }
