use Rattle.hc_grammar.specs.Nesting.{is_step_word, step_words}
use Rattle.hc_parse.proofs.role.is_step_word.Goals as goal

pub returns : goal.returns
unfolding is_step_word step_words
returns c = c.is_among.ensures
