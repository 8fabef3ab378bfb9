use Rattle.hc_lex.proofs.Either.{either}
use Rattle.hc_lex.proofs.laws.tokens_or_breach.Goals as goal

pub returns : goal.returns
returns c = either
