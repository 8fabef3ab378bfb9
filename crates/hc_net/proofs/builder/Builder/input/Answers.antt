use Rattle.std.proofs.Common.{arith, length, ap}
use Rattle.hc_net.specs.Circuit.{Circuit}
use Rattle.hc_net.proofs.Nodes.{input_count_le}
use Rattle.hc_net.proofs.Built.{built_input, counted_input, extends_input}
use Rattle.hc_net.proofs.builder.Builder.input.Goals as goal

pub overflow_add-self : goal.overflow_add-self
overflow_add-self c =
    let most = input_count_le c.self.inside.ports in
    let same = ap (λ (x : Circuit). length x.ports) c.self.view_is in
    omega arith

pub invariant_of-self-2 : goal.invariant_of-self-2
invariant_of-self-2 c = (
  counted_input _ c.self.inside.ports _ _ _ c.add_input.new.ports c.self.invariant.0 c.in_ok-add_input.ensures.ok.0,
  built_input _ c.args.self.now _ c.args.width _ c.self.inside.inputs c.add_input.new.ports c.add_input.new.nodes c.self.view_is c.self.invariant.1 c.requires.nets c.requires.ports c.self.invariant.0 c.in_ok-add_input.ensures.ok.0 c.in_ok-add_input.ensures.ok.1,
)

pub returns-clause-earlier : goal.returns-clause-earlier
returns-clause-earlier c = extends_input _ c.args.self.now c.self.inside.inputs c.args.width c.add_input.new.nodes c.self.view_is c.in_ok-add_input.ensures.ok.1
