use Rattle.hc_grammar.specs.Grammar.{grammar}
use Rattle.hc_grammar.specs.LastEmpty.{may_be_empty, knows_empty}
use Rattle.hc_grammar.proofs.Where.{reads-stop, reads-longest}
use Rattle.hc_grammar.proofs.laws.reads_where.Goals as goal

pub returns : goal.returns
returns c = λ f v ts rest a. (reads-stop grammar may_be_empty knows_empty a, reads-longest grammar may_be_empty knows_empty a)
