use Rattle.hc_run.proofs.Jobs.{FilledFront-closed}
use Rattle.hc_run.proofs.build_job.fill_and_close.Goals as goal

pub returns-in-Err-clause-err : goal.returns-in-Err-clause-err
returns-in-Err-clause-err g c = FilledFront-closed c.in-Ok.ensures.ok c.close.ensures.closed
