use Rattle.hc_run.proofs.Sources.{never_both}
use Rattle.hc_run.proofs.laws.never_both.Goals as goal

pub returns : goal.returns
returns c = never_both c.cycles_reach_themselves.ensures c.one_reading.ensures c.never_both.ensures c.one_tree.ensures c.never_both-2.ensures c.one_core.ensures c.never_both-3.ensures
