use Rattle.std.proofs.Common.{arith, sym}
use Rattle.hc_width.proofs.Powers.{shr_all}
use Rattle.hc_width.proofs.arithmetic.shifted_down.Goals as goal

pub returns-else-amount-lt128 : goal.returns-else-amount-lt128
returns-else-amount-lt128 c = sym (shr_all c.args.bits c.args.amount (omega arith) (omega arith))
