use Rattle.std.proofs.lemmas.Nat.{and_mask}
use Rattle.hc_num.proofs.num.Num.wrapped.Goals as goal

pub returns-clause-value : goal.returns-clause-value
returns-clause-value c = cc (and_mask c.args.bits c.args.self.width)
