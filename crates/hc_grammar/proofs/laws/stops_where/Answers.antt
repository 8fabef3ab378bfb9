use Rattle.hc_grammar.specs.Grammar.{grammar}
use Rattle.hc_grammar.specs.LastEmpty.{may_be_empty, knows_empty}
use Rattle.hc_grammar.proofs.Facts.{endings}
use Rattle.hc_grammar.proofs.Where.{stops-stop}
use Rattle.hc_grammar.proofs.laws.stops_where.Goals as goal

pub returns : goal.returns
returns c = λ f ts at s. stops-stop grammar may_be_empty knows_empty endings s
