use Rattle.hc_lex.proofs.Plain.{tokens-plain}
use Rattle.hc_lex.proofs.laws.tokens_are_plain.Goals as goal

pub returns : goal.returns
returns c = λ at bytes ts end. tokens-plain
