use Rattle.hc_meaning.proofs.OneRun.{one_state, one_output}
use Rattle.hc_meaning.proofs.Longer.{longer}
use Rattle.hc_meaning.proofs.laws.one_run.Goals as goal

pub returns-clause-states : goal.returns-clause-states
returns-clause-states c = one_state

pub returns-clause-outputs : goal.returns-clause-outputs
returns-clause-outputs c = one_output

pub returns-clause-longer : goal.returns-clause-longer
returns-clause-longer c = longer
