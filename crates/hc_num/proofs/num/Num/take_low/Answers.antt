use Rattle.std.proofs.lemmas.Nat.{and_mask}
use Rattle.hc_num.proofs.num.Num.take_low.Goals as goal

pub returns : goal.returns
returns c = cc (and_mask c.bits.result c.args.n)
