use Rattle.hc_run.proofs.Sources.{one_core}
use Rattle.hc_run.proofs.laws.one_core.Goals as goal

pub returns : goal.returns
returns c = one_core c.one_reading.ensures c.one_tree.ensures c.one_core.ensures
