use Rattle.hc_net.proofs.Levels.{is_order, have_ranks}
use Rattle.hc_net.proofs.seal.order.order.Goals as goal

pub levels-requires-clause-ranks : goal.levels-requires-clause-ranks
levels-requires-clause-ranks c = have_ranks c.args.nodes.now c.requires.rams

pub returns : goal.returns
returns c = is_order c.args.nodes.now c.in_ok-order.order.items c.sort_unstable.new.self.items c.in_ok-order.ensures c.requires.driven c.requires.rams c.requires.gates c.sort_unstable.ensures.permutation c.sort_unstable.ensures.sorted
