use Rattle.std.proofs.lemmas.Nat.{xor_lt}
use Rattle.hc_num.proofs.num.Num.xor.Goals as goal

pub new-requires-clause-fits : goal.new-requires-clause-fits
new-requires-clause-fits c =
    rw c.width.ensures.width (xor_lt c.args.self.width _ _ c.bits.ensures.fits (rw c.requires.width c.bits-2.ensures.fits))
