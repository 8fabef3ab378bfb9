use Rattle.std.proofs.Common.{arith}
use Rattle.hc_num.proofs.Widths.{shr_fits}
use Rattle.hc_num.proofs.num.Num.drop_low.Goals as goal

pub new-requires-clause-fits : goal.new-requires-clause-fits
new-requires-clause-fits c =
    rw c.width.ensures.width (shr_fits c.bits.result c.args.self.width c.args.n (omega arith) c.bits.ensures.fits)
