use Rattle.hc_stim.proofs.LineLaws.{text_and_bad}
use Rattle.hc_stim.proofs.laws.never_both.Goals as goal

pub returns : goal.returns
returns c = text_and_bad
