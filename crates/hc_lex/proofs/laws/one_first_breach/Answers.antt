use Rattle.hc_lex.proofs.Readings.{stop-same}
use Rattle.hc_lex.proofs.laws.one_first_breach.Goals as goal

pub returns : goal.returns
returns c = λ before at bytes rule other place behind. stop-same
