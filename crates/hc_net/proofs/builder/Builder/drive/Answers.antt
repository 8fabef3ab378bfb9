use Rattle.std.proofs.Common.{List, ap, subst}
use Rattle.hc_net.specs.Circuit.{Explains}
use Rattle.hc_net.specs.declared.node.Node.{Node}
use Rattle.hc_net.proofs.Nodes.{driven_bit}
use Rattle.hc_net.proofs.builder.Builder.drive.Goals as goal

pub returns-clause-value : goal.returns-clause-value
returns-clause-value c trace h e = driven_bit c.args.self.now.nodes c.args.wire c.args.from c.requires.there c.requires.wire trace h (subst (λ (l : List Node). Explains l trace h) (ap (λ x. x.nodes) c.connect.ensures.connected) e)
