use Rattle.hc_parse.proofs.Checks.{one_of_both}
use Rattle.hc_parse.proofs.laws.passes_or_breach.Goals as goal

pub returns : goal.returns
returns c = one_of_both
