use Rattle.std.proofs.Common.{ap, ◌∙◌}
use Rattle.hc_core.specs.Program.{Choice}
use Rattle.hc_core.specs.Read.{expression}
use Rattle.hc_core.specs.Typed.{kinds_of}
use Rattle.hc_width.specs.Operand as o
use Rattle.hc_width.specs.Judged.{Gives}
use Rattle.hc_width.specs.Parts.{choose, condition}
use Rattle.hc_width.proofs.Steps.{answers_as}
use Rattle.hc_width.proofs.choice.choose_expression.Goals as goal

pub returns-in-Ok : goal.returns-in-Ok
unfolding choose
returns-in-Ok c = λ by is.
    let kinds = kinds_of c.args.objects.now in
    let a = expression c.args.a in
    let b = expression c.args.b in
    answers_as (choose kinds by (o.Of a) (o.Of b)) _ c.args.place _
    (c.in-Ok.ensures (Gives (o.Of (Choice (condition by) a b))) ∙ ap (λ x. Gives (o.Of (Choice x a b))) is)
    (c.choice_of.ensures c.args.place)

pub returns-in-Err : goal.returns-in-Err
unfolding choose
returns-in-Err c = λ by is. c.in-Err.ensures (Gives (o.Of (Choice (condition by) (expression c.args.a) (expression c.args.b))))
