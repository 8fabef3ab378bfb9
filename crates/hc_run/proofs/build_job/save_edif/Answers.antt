use Rattle.std.proofs.Common.{inr}
use Rattle.std.proofs.lemmas.Result.{on_ok_weaker, on_err_weaker}
use Rattle.hc_run.proofs.Jobs.{Saved-filled, HoldsFront-filled}
use Rattle.hc_run.proofs.build_job.save_edif.Goals as goal

pub returns-in-Ok-clause-ok : goal.returns-in-Ok-clause-ok
returns-in-Ok-clause-ok g c = on_ok_weaker c.fill_and_close.result (Saved-filled c.in-Ok.ensures.ok) c.fill_and_close.ensures.ok

pub returns-in-Ok-clause-err : goal.returns-in-Ok-clause-err
returns-in-Ok-clause-err g c = on_err_weaker c.fill_and_close.result (λ h. inr (HoldsFront-filled c.in-Ok.ensures.ok h)) c.fill_and_close.ensures.err
