use Rattle.hc_net.proofs.Settles.{settles, alone}
use Rattle.hc_net.proofs.laws.settles_once.Goals as goal

pub returns-clause-settles : goal.returns-clause-settles
returns-clause-settles c = settles

pub returns-clause-alone : goal.returns-clause-alone
returns-clause-alone c = alone
