use Rattle.hc_grammar.specs.Nesting.{is_type_word, type_words}
use Rattle.hc_parse.proofs.role.is_type_word.Goals as goal

pub returns : goal.returns
unfolding is_type_word type_words
returns c = c.is_among.ensures
