use Rattle.hc_expand.proofs.OneCore.{one_expansion}
use Rattle.hc_expand.proofs.laws.one_core.Goals as goal

pub returns : goal.returns
returns c = one_expansion
