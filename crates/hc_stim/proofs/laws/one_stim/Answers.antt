use Rattle.hc_stim.proofs.LineLaws.{one_text}
use Rattle.hc_stim.proofs.laws.one_stim.Goals as goal

pub returns : goal.returns
returns c = λ widths bytes stim other w a b. one_text widths w bytes stim other a b
