use Rattle.hc_parse.proofs.Checks.{not_both}
use Rattle.hc_parse.proofs.laws.passes_without_breach.Goals as goal

pub returns : goal.returns
returns c = not_both
