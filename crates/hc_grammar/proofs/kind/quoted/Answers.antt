use Rattle.hc_grammar.specs.Kind.{quoted}
use Rattle.hc_grammar.proofs.kind.quoted.Goals as goal

pub returns : goal.returns
unfolding quoted
returns c = c.listed.ensures
