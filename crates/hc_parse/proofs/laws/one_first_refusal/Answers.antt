use Rattle.hc_parse.proofs.Firsts.{one_refusal}
use Rattle.hc_parse.proofs.laws.one_first_refusal.Goals as goal

pub returns : goal.returns
returns c = one_refusal
