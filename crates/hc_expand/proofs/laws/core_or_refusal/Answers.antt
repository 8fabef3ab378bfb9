use Rattle.hc_expand.proofs.OneCore.{expands_or_stops}
use Rattle.hc_expand.proofs.laws.core_or_refusal.Goals as goal

pub returns : goal.returns
returns c = expands_or_stops
