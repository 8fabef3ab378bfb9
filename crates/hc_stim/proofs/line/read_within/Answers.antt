use Rattle.hc_stim.proofs.Fields.{too_wide, no_number}
use Rattle.hc_stim.proofs.line.read_within.Goals as goal

pub returns-else-fits : goal.returns-else-fits
returns-else-fits c = too_wide c.args.width _ _ _ c.requires c.in-Some.ensures (λ h. let is = c.if-fits.ensures.1 h in cc)

pub returns-in-None : goal.returns-in-None
returns-in-None c = no_number c.args.width _ c.requires c.in-None.ensures
