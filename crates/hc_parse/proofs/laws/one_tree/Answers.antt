use Rattle.hc_grammar.specs.Form as f
use Rattle.hc_parse.proofs.laws.one_tree.Goals as goal

pub returns : goal.returns
returns c = λ ts tree other a b. c.one_tree.ensures f.program tree other ts a.spells b.spells
