use Rattle.std.proofs.Common.{◌+◌}
use Rattle.hc_num.proofs.Widths.{mod_128-mod}
use Rattle.hc_num.proofs.num.Num.add.Goals as goal

pub returns : goal.returns
returns c =
    cc (mod_128-mod (c.bits.result + c.bits-2.result) c.args.self.width c.wrapped.ensures.most)
