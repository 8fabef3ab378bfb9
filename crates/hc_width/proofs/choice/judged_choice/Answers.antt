use Rattle.std.proofs.Common.{ap, ◌∙◌}
use Rattle.hc_core.specs.Typed.{kinds_of}
use Rattle.hc_width.specs.Operand.{operand, Whole}
use Rattle.hc_width.specs.Parts.{choose}
use Rattle.hc_width.proofs.Steps.{answers_as}
use Rattle.hc_width.proofs.choice.judged_choice.Goals as goal

pub returns-in-Constant-b : goal.returns-in-Constant-b
unfolding choose
returns-in-Constant-b c =
    let kinds = kinds_of c.args.objects.now in
    let by = operand c.args.c in
    answers_as (choose kinds by (operand c.args.a) (operand c.args.b)) _ c.args.place _
    (ap (λ x. choose kinds by (operand x) (operand c.args.b)) c.in-Constant.is ∙ ap (λ y. choose kinds by (Whole c.in-Constant.a) (operand y)) c.in-Constant-b.is)
    c.choose_constant.ensures
