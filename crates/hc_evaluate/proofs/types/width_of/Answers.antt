use Rattle.hc_width.specs.Operand.{operand}
use Rattle.hc_scope.specs.Expression.{needs_constant, width_by}
use Rattle.hc_evaluate.proofs.Steps.{err_then}
use Rattle.hc_evaluate.proofs.types.width_of.Goals as goal

pub returns-in-Err-clause-answers : goal.returns-in-Err-clause-answers
returns-in-Err-clause-answers c = λ s. err_then (λ n. n) (λ n. n) (needs_constant c.args.place (operand c.args.v) s) (width_by c.args.place) c.in-Err.e s s (c.in-Err.ensures s)
