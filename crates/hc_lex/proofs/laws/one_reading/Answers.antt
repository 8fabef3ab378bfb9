use Rattle.hc_lex.proofs.Readings.{reading-same}
use Rattle.hc_lex.proofs.laws.one_reading.Goals as goal

pub returns : goal.returns
returns c = λ at bytes ts us end other. reading-same
