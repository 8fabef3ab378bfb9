use Rattle.hc_evaluate.proofs.OneBit.{number_has}
use Rattle.hc_evaluate.proofs.conditions.condition.Goals as goal

pub returns-in-Constant-clause-typed : goal.returns-in-Constant-clause-typed
returns-in-Constant-clause-typed c = λ kinds _. number_has kinds c.bit.result c.bit.ensures.number
