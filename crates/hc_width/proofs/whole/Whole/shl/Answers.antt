use Rattle.std.proofs.Common.{◌≢◌, unsigned_abs, arith, sym}
use Rattle.hc_width.proofs.Powers.{shl_none}
use Rattle.hc_width.proofs.whole.Whole.shl.Goals as goal

pub returns-then-amount-ge128 : goal.returns-then-amount-ge128
returns-then-amount-ge128 c =
    let some : unsigned_abs c.args.self ≢ 0 = omega arith in
    sym (shl_none c.args.self c.args.amount some (omega arith))
