use Rattle.hc_core.specs.Typed.{kinds_of}
use Rattle.hc_evaluate.proofs.OneBit.{number_has}
use Rattle.hc_evaluate.proofs.conditions.condition_or_one.Goals as goal

pub returns-in-None-clause-typed : goal.returns-in-None-clause-typed
returns-in-None-clause-typed c = number_has (kinds_of c.args.state.now.objects) c.bit.result c.bit.ensures.number
