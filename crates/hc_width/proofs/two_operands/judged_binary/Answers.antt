use Rattle.std.proofs.Common.{ap, ◌∙◌}
use Rattle.hc_core.specs.Typed.{kinds_of}
use Rattle.hc_width.specs.Operand.{operand, Whole}
use Rattle.hc_width.specs.Binary.{binary}
use Rattle.hc_width.proofs.Steps.{answers_as}
use Rattle.hc_width.proofs.KeptBinary.{both_constants}
use Rattle.hc_width.proofs.two_operands.judged_binary.Goals as goal

pub returns-in-Constant-b : goal.returns-in-Constant-b
returns-in-Constant-b c =
    let kinds = kinds_of c.args.objects.now in
    answers_as (binary kinds c.args.op (operand c.args.a) (operand c.args.b)) _ c.args.place _
    (ap (λ x. binary kinds c.args.op (operand x) (operand c.args.b)) c.in-Constant.is
    ∙ ap (λ y. binary kinds c.args.op (Whole c.in-Constant.a) (operand y)) c.in-Constant-b.is
    ∙ both_constants kinds c.args.op c.in-Constant.a c.in-Constant-b.b)
    c.constants.ensures
