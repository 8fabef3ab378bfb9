use Rattle.hc_run.proofs.Sources.{core_or_refusal}
use Rattle.hc_run.proofs.laws.core_or_refusal.Goals as goal

pub returns : goal.returns
returns c = core_or_refusal c.cycle_or_none.ensures c.tokens_or_breach.ensures c.tree_or_refusal.ensures c.core_or_refusal.ensures
