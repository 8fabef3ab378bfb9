use Rattle.hc_bits.proofs.Terms.{terms_few}
use Rattle.hc_bits.proofs.decoder.terms_at.Goals as goal

pub returns-else-place-lt32 : goal.returns-else-place-lt32
returns-else-place-lt32 c = terms_few c.args.n c.args.place c.ranges.n.fits c.if-place-lt32.false
