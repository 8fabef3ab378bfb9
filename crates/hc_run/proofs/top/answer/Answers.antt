use Rattle.hc_run.proofs.Clauses.{Answers-reported}
use Rattle.hc_run.specs.Steps.{status_of, text_of}
use Rattle.hc_run.proofs.top.answer.Goals as goal

pub returns-in-Ok-clause-answers : goal.returns-in-Ok-clause-answers
returns-in-Ok-clause-answers g c = Answers-reported _ _ _ _ _ (status_of c.in-Ok.due) (text_of c.in-Ok.due) _ c.in-Ok.ensures.performs c.report.ensures
