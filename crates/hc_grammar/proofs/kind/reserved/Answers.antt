use Rattle.hc_grammar.specs.Kind.{reserved}
use Rattle.hc_grammar.proofs.kind.reserved.Goals as goal

pub returns : goal.returns
unfolding reserved
returns c = c.listed.ensures
