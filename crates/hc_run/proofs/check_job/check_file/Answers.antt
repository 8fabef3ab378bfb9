use Rattle.std.proofs.Common.{Err, ap}
use Rattle.hc_run.specs.Words.{to_check}
use Rattle.hc_run.proofs.Jobs.{Performs-checked, Performs-failed, Performs-longer}
use Rattle.hc_run.proofs.check_job.check_file.Goals as goal

pub returns-in-Ok-clause-performs : goal.returns-in-Ok-clause-performs
returns-in-Ok-clause-performs g c = λ words job.
    Performs-checked words c.args.file.now c.load.new.into.items
    (g.S.Store.state c.args.store.now) (g.S.Store.state c.load.new.self) c.check.result
    job c.in-Ok.ensures.ok c.in-Ok.ensures.within c.in-Ok.ensures.files c.in-Ok.ensures.counts (rw c.as_slice.ensures.value at c.check.ensures)

pub returns-in-Err-Failed-clause-performs : goal.returns-in-Err-Failed-clause-performs
returns-in-Err-Failed-clause-performs g c = λ words job.
    Performs-failed words c.args.file.now (g.S.Store.state c.args.store.now) (g.S.Store.state c.load.new.self)
    (to_check job) (c.in-Err-Failed.ensures.failed (ap Err c.in-Err-Failed.field-0-is)) c.in-Err-Failed.ensures.files c.in-Err-Failed.ensures.counts

pub returns-in-Err-Longer-clause-performs : goal.returns-in-Err-Longer-clause-performs
returns-in-Err-Longer-clause-performs g c = λ words job.
    Performs-longer words c.args.file.now (g.S.Store.state c.args.store.now) (g.S.Store.state c.load.new.self)
    (to_check job) (c.in-Err-Longer.ensures.longer (ap Err c.in-Err-Longer.field-0-is)) c.in-Err-Longer.ensures.files c.in-Err-Longer.ensures.counts
