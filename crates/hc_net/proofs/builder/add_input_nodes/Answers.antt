use Rattle.std.proofs.Common.{◌-◌, length, take, ap, ◌∙◌, List}
use Rattle.hc_net.specs.declared.node.Node.{Node}
use Rattle.hc_net.proofs.Nodes.{input_nodes_dropped, inputs_pushed}
use Rattle.hc_net.proofs.builder.add_input_nodes.Goals as goal

pub returns-in-Err-clause-err : goal.returns-in-Err-clause-err
returns-in-Err-clause-err c = c.drop_last.ensures ∙ ap (λ (l : List Node). take (length l - c.loop-bit.bit) l) (c.in-Err.ensures.err ∙ c.loop-bit.invariant) ∙ input_nodes_dropped c.args.nodes.now c.args.port c.loop-bit.bit

pub loop-bit-preserved : goal.loop-bit-preserved
loop-bit-preserved c = inputs_pushed c.args.nodes.now c.loop-bit.nodes c.push.new.self c.args.port c.loop-bit.bit c.loop-bit.invariant c.in-Ok.ensures.ok
