use Rattle.std.proofs.Common.{◌+◌, ◌-◌, ◌/◌, ◌^◌}
use Rattle.std.proofs.lemmas.Nat.{and_mask}
use Rattle.hc_num.proofs.num.Num.slice.Goals as goal

pub returns : goal.returns
returns c = cc (and_mask (c.bits.result / 2 ^ c.args.low) (c.args.high - c.args.low + 1))
