use Rattle.std.proofs.Common.{refl}
use Rattle.hc_run.proofs.check_job.check.Goals as goal

pub returns-in-Ok : goal.returns-in-Ok
returns-in-Ok c = rw c.counted-due.ensures (record { core = c.in-Ok.core; accepted = c.in-Ok.ensures.accepted; objects = refl; weight = refl; flops = refl })
