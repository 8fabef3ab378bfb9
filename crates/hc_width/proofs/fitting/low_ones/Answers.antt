use Rattle.hc_width.proofs.Powers.{ones_of_128}
use Rattle.hc_width.proofs.fitting.low_ones.Goals as goal

pub returns : goal.returns
returns c = ones_of_128 c.args.count c.requires.most
