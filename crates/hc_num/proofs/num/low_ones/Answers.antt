use Rattle.hc_num.proofs.Widths.{ones_of_128}
use Rattle.hc_num.proofs.num.low_ones.Goals as goal

pub returns : goal.returns
returns c = ones_of_128 c.args.count c.requires.most
