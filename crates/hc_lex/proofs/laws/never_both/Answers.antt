use Rattle.hc_lex.proofs.Either.{one-of}
use Rattle.hc_lex.proofs.laws.never_both.Goals as goal

pub returns : goal.returns
returns c = one-of
