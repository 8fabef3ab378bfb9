use Rattle.std.proofs.Common.{ap}
use Rattle.hc_core.specs.Typed.{kinds_of}
use Rattle.hc_width.specs.Operand.{operand}
use Rattle.hc_width.specs.Unary.{cast}
use Rattle.hc_width.proofs.Steps.{answers_as}
use Rattle.hc_width.proofs.Kept.{answer_kept, answer_type, cast_kept, cast_type}
use Rattle.hc_width.proofs.one_operand.cast.Goals as goal

pub returns-in-Constant-clause-value : goal.returns-in-Constant-clause-value
returns-in-Constant-clause-value c =
    answers_as (cast (kinds_of c.args.objects.now) c.args.width c.args.signed (operand c.args.v)) _ c.args.place _
    (ap (λ v. cast (kinds_of c.args.objects.now) c.args.width c.args.signed (operand v)) c.in-Constant.is)
    (c.cast_constant.ensures (kinds_of c.args.objects.now))

pub returns-in-Constant-clause-typed : goal.returns-in-Constant-clause-typed
returns-in-Constant-clause-typed c =
    answer_kept (kinds_of c.args.objects.now) _ c.args.place _ (returns-in-Constant-clause-value c)
    (λ o. cast_kept (kinds_of c.args.objects.now) c.args.width c.args.signed (operand c.args.v) o c.requires.least c.requires.most c.requires.operand)

pub returns-in-Constant-clause-type_is : goal.returns-in-Constant-clause-type_is
returns-in-Constant-clause-type_is c =
    answer_type (kinds_of c.args.objects.now) c.args.width c.args.signed _ c.args.place _ (returns-in-Constant-clause-value c)
    (λ o. cast_type (kinds_of c.args.objects.now) c.args.width c.args.signed (operand c.args.v) o c.requires.least c.requires.most c.requires.operand)

pub returns-in-Typed-clause-value : goal.returns-in-Typed-clause-value
returns-in-Typed-clause-value c =
    answers_as (cast (kinds_of c.args.objects.now) c.args.width c.args.signed (operand c.args.v)) _ c.args.place _
    (ap (λ v. cast (kinds_of c.args.objects.now) c.args.width c.args.signed (operand v)) c.in-Typed.is)
    c.cast_expression.ensures

pub returns-in-Typed-clause-typed : goal.returns-in-Typed-clause-typed
returns-in-Typed-clause-typed c =
    answer_kept (kinds_of c.args.objects.now) _ c.args.place _ (returns-in-Typed-clause-value c)
    (λ o. cast_kept (kinds_of c.args.objects.now) c.args.width c.args.signed (operand c.args.v) o c.requires.least c.requires.most c.requires.operand)

pub returns-in-Typed-clause-type_is : goal.returns-in-Typed-clause-type_is
returns-in-Typed-clause-type_is c =
    answer_type (kinds_of c.args.objects.now) c.args.width c.args.signed _ c.args.place _ (returns-in-Typed-clause-value c)
    (λ o. cast_type (kinds_of c.args.objects.now) c.args.width c.args.signed (operand c.args.v) o c.requires.least c.requires.most c.requires.operand)
