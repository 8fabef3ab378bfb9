use Rattle.hc_core.specs.Typed.{kinds_of}
use Rattle.hc_scope.specs.Expression.{index}
use Rattle.hc_evaluate.proofs.index.index.Goals as goal

pub returns-in-Constant-clause-answers : goal.returns-in-Constant-clause-answers
unfolding index
returns-in-Constant-clause-answers c =
    rw (c.in-Constant.is, ← c.length_of-length.ensures, ← c.place_of.ensures) (c.constant_index.ensures.answers (kinds_of c.args.state.now.objects) c.args.state.now)
