use Rattle.hc_run.proofs.build_job.perform.Goals as goal

pub returns-in-Some-Build-clause-performs : goal.returns-in-Some-Build-clause-performs
returns-in-Some-Build-clause-performs g c = c.build_file.ensures.performs _ (rw c.in-Some-Build.field-0-is at c.in-Some-Build.ensures)

pub returns-in-Some-Check-clause-performs : goal.returns-in-Some-Check-clause-performs
returns-in-Some-Check-clause-performs g c = c.check_file.ensures.performs _ (rw c.in-Some-Check.field-0-is at c.in-Some-Check.ensures)
