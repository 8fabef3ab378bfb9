use Rattle.std.proofs.Common.{List, ap, subst}
use Rattle.std.proofs.lemmas.Result.{IfOk-weaker}
use Rattle.hc_net.specs.Circuit.{Explains}
use Rattle.hc_net.specs.declared.node.Node.{Node}
use Rattle.hc_net.specs.declared.node.Node.TheVariants.{Gate}
use Rattle.hc_net.proofs.Nodes.{does_last}
use Rattle.hc_net.proofs.builder.Builder.gate.Goals as goal

pub returns-clause-value : goal.returns-clause-value
returns-clause-value c = IfOk-weaker c.add.result _ _ (λ net p trace h e. does_last c.args.self.now.nodes (Gate c.args.kind c.args.a c.args.b) trace h net p.0 (subst (λ (l : List Node). Explains l trace h) (ap (λ x. x.nodes) p.1) e)) c.add.ensures.ok
