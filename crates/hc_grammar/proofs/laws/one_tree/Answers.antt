use Rattle.hc_grammar.specs.Grammar.{grammar}
use Rattle.hc_grammar.specs.LastReadings.{reads-same}
use Rattle.hc_grammar.proofs.laws.one_tree.Goals as goal

pub returns : goal.returns
returns c = λ f v w ts a b. (reads-same grammar a b).0
