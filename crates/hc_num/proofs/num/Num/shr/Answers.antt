use Rattle.std.proofs.Common.{arith}
use Rattle.hc_num.proofs.Widths.{pow_rises}
use Rattle.hc_num.proofs.Signs.{shifted_right-fits}
use Rattle.hc_num.proofs.num.Num.shr.Goals as goal

pub new-requires-clause-fits : goal.new-requires-clause-fits
new-requires-clause-fits c =
    rw (c.shifted_down-stays.ensures, c.entering-enters.ensures, c.width.ensures.width, c.bits.ensures.bits) (
    shifted_right-fits c.args.self c.args.amount (rw (← c.bits.ensures.bits) c.bits.ensures.fits)
    )

pub overflow_add-stays : goal.overflow_add-stays
overflow_add-stays c =
    let h = shifted_right-fits c.args.self c.args.amount (rw (← c.bits.ensures.bits) c.bits.ensures.fits) in
    let p = pow_rises c.args.self.width 128 (rw (← c.width.ensures.width) c.width.ensures.most) in
    rw (c.shifted_down-stays.ensures, c.entering-enters.ensures, c.bits.ensures.bits) (omega (arith, h, p))
