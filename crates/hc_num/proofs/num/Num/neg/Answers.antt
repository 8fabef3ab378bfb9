use Rattle.std.proofs.Common.{ℕ, ap}
use Rattle.hc_num.specs.Number.{Number}
use Rattle.hc_num.proofs.Widths.{neg_128-mod}
use Rattle.hc_num.proofs.num.Num.neg.Goals as goal

pub returns : goal.returns
returns c =
    let bits_are : ℕ → Number =
    λ n. record { width = c.args.self.width; signed = c.args.self.signed; bits = n } in
    rw (c.wrapped.ensures.value, ← c.bits.ensures.bits) (
    ap bits_are (neg_128-mod c.bits.result c.args.self.width c.wrapped.ensures.most c.bits.ensures.fits)
    )
