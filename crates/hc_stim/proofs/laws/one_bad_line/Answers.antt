use Rattle.hc_stim.proofs.LineLaws.{one_bad}
use Rattle.hc_stim.proofs.laws.one_bad_line.Goals as goal

pub returns : goal.returns
returns c = one_bad
