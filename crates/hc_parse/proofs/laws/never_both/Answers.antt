use Rattle.hc_parse.proofs.Firsts.{tree_or_refusal}
use Rattle.hc_parse.proofs.laws.never_both.Goals as goal

pub returns : goal.returns
returns c = tree_or_refusal
