use Rattle.hc_meaning.proofs.Nets.{nets_are}
use Rattle.hc_meaning.proofs.Possible.{is_met}
use Rattle.hc_meaning.proofs.laws.nets_are_the_clock.Goals as goal

pub returns-clause-identified : goal.returns-clause-identified
returns-clause-identified c = nets_are

pub returns-clause-possible : goal.returns-clause-possible
returns-clause-possible c = is_met
