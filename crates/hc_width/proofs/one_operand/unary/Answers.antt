use Rattle.std.proofs.Common.{ap}
use Rattle.hc_core.specs.Typed.{kinds_of}
use Rattle.hc_width.specs.Operand.{operand}
use Rattle.hc_width.specs.Unary.{unary}
use Rattle.hc_width.proofs.Steps.{answers_as}
use Rattle.hc_width.proofs.Kept.{answer_kept, unary_kept}
use Rattle.hc_width.proofs.one_operand.unary.Goals as goal

pub returns-in-Constant-clause-value : goal.returns-in-Constant-clause-value
unfolding unary
returns-in-Constant-clause-value c =
    answers_as (unary c.args.op (operand c.args.v)) _ c.args.place _ (ap (λ v. unary c.args.op (operand v)) c.in-Constant.is) c.unary_constant.ensures

pub returns-in-Typed-clause-value : goal.returns-in-Typed-clause-value
unfolding unary
returns-in-Typed-clause-value c =
    answers_as (unary c.args.op (operand c.args.v)) _ c.args.place _ (ap (λ v. unary c.args.op (operand v)) c.in-Typed.is) (c.unary_of.ensures c.args.place)

pub returns-in-Typed-clause-typed : goal.returns-in-Typed-clause-typed
returns-in-Typed-clause-typed c =
    answer_kept (kinds_of c.args.objects.now) (unary c.args.op (operand c.args.v)) c.args.place _ (returns-in-Typed-clause-value c)
    (λ o. unary_kept (kinds_of c.args.objects.now) c.args.op (operand c.args.v) o c.requires.operator c.requires.operand)
