use Rattle.hc_grammar.specs.Grammar.{grammar}
use Rattle.hc_grammar.specs.LastReadings.{never-both}
use Rattle.hc_grammar.proofs.laws.read_or_stopped.Goals as goal

pub returns : goal.returns
returns c = λ f v ts rest at a s. never-both grammar a s
