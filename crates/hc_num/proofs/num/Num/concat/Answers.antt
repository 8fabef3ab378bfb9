use Rattle.std.proofs.Common.{arith}
use Rattle.hc_num.proofs.Widths.{joined_whole}
use Rattle.hc_num.proofs.num.Num.concat.Goals as goal

pub overflow_add-bits : goal.overflow_add-bits
overflow_add-bits c =
    rw c.width.ensures.width (
    let w = joined_whole _ _ _ _ c.bits.ensures.fits c.bits-2.ensures.fits c.requires in
    rw (w.0) (omega (arith, w.2))
    )

pub new-requires-clause-fits : goal.new-requires-clause-fits
new-requires-clause-fits c =
    rw (c.width.ensures.width, c.width-2.ensures.width, c.width-3.ensures.width) (
    let w = joined_whole _ _ _ _ c.bits.ensures.fits c.bits-2.ensures.fits c.requires in
    rw (w.0) (w.1)
    )

pub returns : goal.returns
returns c =
    let w = joined_whole _ _ _ _ c.bits.ensures.fits c.bits-2.ensures.fits c.requires in
    cc (w.0)
