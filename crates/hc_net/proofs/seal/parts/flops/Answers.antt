use Rattle.std.proofs.Common.{◌∙◌, ◌∷◌, ◌++◌, [], ap}
use Rattle.hc_net.specs.Place.{flops_with}
use Rattle.hc_net.specs.declared.node.Node.{Node}
use Rattle.hc_net.proofs.Counts.{flops_step}
use Rattle.hc_net.specs.Place.{place_of}
use Rattle.hc_net.proofs.seal.parts.flops.Goals as goal

pub loop-node-preserved : goal.loop-node-preserved
loop-node-preserved c = flops_step (place_of c.args.places.now) c.args.nodes.now c.loop-node.node-index _ c.loop-node.flops c.add_flop.new.flops c.loop-node-test.true c.loop-node.invariant (c.in_ok-add_flop.ensures ∙ ap (λ (n : Node). c.loop-node.flops ++ flops_with (place_of c.args.places.now) (n ∷ [])) c.node-item.is)
