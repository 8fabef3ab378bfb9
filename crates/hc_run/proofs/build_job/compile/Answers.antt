use Rattle.std.proofs.Common.{inl}
use Rattle.hc_run.proofs.build_job.compile.Goals as goal

pub returns-in-Ok-clause-compiles : goal.returns-in-Ok-clause-compiles
returns-in-Ok-clause-compiles g c = inl (record { core = c.in-Ok.core; accepted = c.in-Ok.ensures.accepted; builds = c.build_core-due.ensures.builds })
