use Rattle.std.proofs.Common.{List, ap, subst}
use Rattle.hc_net.specs.Circuit.{Explains}
use Rattle.hc_net.specs.declared.node.Node.{Node}
use Rattle.hc_net.proofs.Nodes.{fed_bit, unfed_within}
use Rattle.hc_net.proofs.builder.Builder.feed.Goals as goal

pub returns-clause-value : goal.returns-clause-value
returns-clause-value c trace h e = fed_bit c.args.self.now.nodes c.args.output c.args.d (unfed_within _ _ c.requires.flop) c.requires.flop trace h (subst (λ (l : List Node). Explains l trace h) (ap (λ x. x.nodes) c.connect.ensures.connected) e)
