use Rattle.hc_run.proofs.Sources.{one_first}
use Rattle.hc_run.proofs.laws.one_first_refusal.Goals as goal

pub returns : goal.returns
returns c =
    one_first c.cycles_reach_themselves.ensures c.one_tree.ensures c.one_first_refusal.ensures c.never_both-2.ensures c.one_core.ensures c.one_refusal.ensures c.never_both-3.ensures
    c.one_reading.ensures c.one_first_breach.ensures c.never_both.ensures
