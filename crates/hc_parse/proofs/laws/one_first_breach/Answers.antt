use Rattle.hc_parse.proofs.Checks.{one_breach}
use Rattle.hc_parse.proofs.laws.one_first_breach.Goals as goal

pub returns : goal.returns
returns c = one_breach
