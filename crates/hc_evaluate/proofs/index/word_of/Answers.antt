use Rattle.hc_core.specs.Read.{expression}
use Rattle.hc_core.specs.Typed.{kinds_of}
use Rattle.hc_evaluate.proofs.ObjectTypes.{word_typed}
use Rattle.hc_evaluate.proofs.index.word_of.Goals as goal

pub returns-in-Ok-clause-typed : goal.returns-in-Ok-clause-typed
returns-in-Ok-clause-typed c =
    let s = c.args.state.now in
    word_typed (kinds_of s.objects) c.args.k (expression c.in-Ok.x) c.memory_part.result s c.requires.sound c.requires.memory c.in-Ok.ensures.typed
    (c.memory_part.ensures s)
