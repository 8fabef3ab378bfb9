use Rattle.hc_stim.proofs.LineLaws.{line_or_none, no_line_without}
use Rattle.hc_stim.proofs.line.read_line.Goals as goal

pub returns-in-Some : goal.returns-in-Some
returns-in-Some c =
    let found = rw c.in-Some.is at c.in_ok-rest.ensures in
    line_or_none (λ r. r.now) c.behind_line.result _ _ _ _ _ c.requires.widths c.requires.some found c.behind_line.ensures

pub returns-in-None : goal.returns-in-None
returns-in-None c = let found = rw c.in-None.is at c.in_ok-rest.ensures in no_line_without _ _ found
