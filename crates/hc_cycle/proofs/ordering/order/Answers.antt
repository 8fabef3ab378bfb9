use Rattle.hc_cycle.proofs.Shown.{names_shown, nodes_shown}
use Rattle.hc_cycle.proofs.ordering.order.Goals as goal

pub returns-clause-refused : goal.returns-clause-refused
returns-clause-refused c = names_shown c.args.core.now c.in-Ok.refusal c.in-Ok.ensures

pub returns-clause-nodes : goal.returns-clause-nodes
returns-clause-nodes c = nodes_shown c.args.core.now c.in-Ok.refusal c.in-Ok.ensures
