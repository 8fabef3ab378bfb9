use Rattle.hc_num.proofs.Widths.{sub_128-mod}
use Rattle.hc_num.proofs.num.Num.sub.Goals as goal

pub returns : goal.returns
returns c =
    cc (
    sub_128-mod
    c.bits.result
    c.bits-2.result
    c.args.self.width
    c.wrapped.ensures.most
    (rw c.requires.width c.bits-2.ensures.fits)
    )
