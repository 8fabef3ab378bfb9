use Rattle.std.proofs.Common.{ap}
use Rattle.hc_core.specs.Typed.{kinds_of}
use Rattle.hc_width.specs.Operand.{operand}
use Rattle.hc_width.specs.Parts.{cut}
use Rattle.hc_width.proofs.Steps.{answers_as}
use Rattle.hc_width.proofs.Kept.{answer_kept, cut_kept}
use Rattle.hc_width.proofs.parts.cut.Goals as goal

pub returns-in-Constant-clause-value : goal.returns-in-Constant-clause-value
unfolding cut
returns-in-Constant-clause-value c =
    answers_as (cut (kinds_of c.args.objects.now) (operand c.args.v) c.args.high c.args.low) _ c.args.place _
    (ap (λ v. cut (kinds_of c.args.objects.now) (operand v) c.args.high c.args.low) c.in-Constant.is)
    c.breaks.ensures

pub returns-in-Constant-clause-typed : goal.returns-in-Constant-clause-typed
returns-in-Constant-clause-typed c =
    answer_kept (kinds_of c.args.objects.now) _ c.args.place _ (returns-in-Constant-clause-value c)
    (λ o. cut_kept (kinds_of c.args.objects.now) (operand c.args.v) c.args.high c.args.low o c.requires)

pub returns-in-Typed-clause-value : goal.returns-in-Typed-clause-value
returns-in-Typed-clause-value c =
    answers_as (cut (kinds_of c.args.objects.now) (operand c.args.v) c.args.high c.args.low) _ c.args.place _
    (ap (λ v. cut (kinds_of c.args.objects.now) (operand v) c.args.high c.args.low) c.in-Typed.is)
    c.cut_expression.ensures

pub returns-in-Typed-clause-typed : goal.returns-in-Typed-clause-typed
returns-in-Typed-clause-typed c =
    answer_kept (kinds_of c.args.objects.now) _ c.args.place _ (returns-in-Typed-clause-value c)
    (λ o. cut_kept (kinds_of c.args.objects.now) (operand c.args.v) c.args.high c.args.low o c.requires)
