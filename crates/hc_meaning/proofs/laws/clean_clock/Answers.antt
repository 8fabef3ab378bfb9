use Rattle.hc_meaning.proofs.Twice.{clean_of, none_of}
use Rattle.hc_meaning.proofs.Least.{least_of}
use Rattle.hc_meaning.proofs.laws.clean_clock.Goals as goal

pub returns-clause-clean : goal.returns-clause-clean
returns-clause-clean c = clean_of

pub returns-clause-none : goal.returns-clause-none
returns-clause-none c = none_of

pub returns-clause-least : goal.returns-clause-least
returns-clause-least c = least_of
