use Rattle.hc_grammar.specs.Grammar.{grammar}
use Rattle.hc_grammar.specs.LastEmpty.{may_be_empty, knows_empty}
use Rattle.hc_grammar.proofs.Either.{either}
use Rattle.hc_grammar.proofs.Facts.{leads-by}
use Rattle.hc_grammar.proofs.Fits.{rank}
use Rattle.hc_grammar.proofs.Follow.{decide}
use Rattle.hc_grammar.proofs.laws.one_of_both.Goals as goal

pub returns : goal.returns
returns c = either grammar may_be_empty knows_empty decide rank leads-by
