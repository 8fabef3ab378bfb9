use Rattle.hc_grammar.specs.Grammar.{grammar}
use Rattle.hc_grammar.specs.LastReadings.{stops-same}
use Rattle.hc_grammar.proofs.laws.one_stop.Goals as goal

pub returns : goal.returns
returns c = λ f ts at other a b. stops-same grammar a b
