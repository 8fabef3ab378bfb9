use Rattle.hc_parse.proofs.Firsts.{one_of_tree}
use Rattle.hc_parse.proofs.laws.tree_or_refusal.Goals as goal

pub returns : goal.returns
returns c = one_of_tree c.read_or_stopped.ensures c.stops_where.ensures c.reads_where.ensures c.one_of_both.ensures
