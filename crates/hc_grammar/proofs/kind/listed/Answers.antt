use Rattle.std.proofs.Common.{◌∙◌}
use Rattle.hc_grammar.proofs.Words.{finds}
use Rattle.hc_grammar.proofs.kind.listed.Goals as goal

pub returns : goal.returns
returns c = c.find.ensures ∙ finds c.args.table.now c.args.word.now
