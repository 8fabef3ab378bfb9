use Rattle.std.proofs.Common.{arith, sym}
use Rattle.hc_num.proofs.Widths.{shl_all}
use Rattle.hc_num.proofs.shift.shifted_up.Goals as goal

pub returns-else-amount-lt128 : goal.returns-else-amount-lt128
returns-else-amount-lt128 c = sym (shl_all c.args.bits 128 c.args.amount (omega arith))
