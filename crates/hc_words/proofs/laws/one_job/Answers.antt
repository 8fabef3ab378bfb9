use Rattle.hc_words.proofs.OneJob.{one}
use Rattle.hc_words.proofs.laws.one_job.Goals as goal

pub returns : goal.returns
returns c = one
