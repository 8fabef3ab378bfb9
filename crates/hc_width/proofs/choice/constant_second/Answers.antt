use Rattle.std.proofs.Common.{ap, ◌∙◌}
use Rattle.hc_core.specs.Program.{Choice, Constant}
use Rattle.hc_core.specs.Read.{expression}
use Rattle.hc_core.specs.Typed.{kinds_of}
use Rattle.hc_width.specs.Operand as o
use Rattle.hc_width.specs.Judged.{Gives}
use Rattle.hc_width.specs.Parts.{choose}
use Rattle.hc_width.proofs.Steps.{answers_as, choose_second, choose_second_breaks}
use Rattle.hc_width.proofs.choice.constant_second.Goals as goal

pub returns-in-Ok : goal.returns-in-Ok
unfolding expression
returns-in-Ok c = λ by is.
    let kinds = kinds_of c.args.objects.now in
    let a = expression c.args.a in
    answers_as (choose kinds by (o.Of a) (o.Whole c.args.b)) _ c.args.place _
    (choose_second kinds by a c.args.b c.in-Ok.n c.in-Ok.ensures ∙ ap (λ x. Gives (o.Of (Choice x a (Constant c.in-Ok.n)))) is)
    (c.choice_of.ensures c.args.place)

pub returns-in-Err : goal.returns-in-Err
returns-in-Err c = λ by is.
    (choose_second_breaks (kinds_of c.args.objects.now) by (expression c.args.a) c.args.b c.in-Err.r.rule c.in-Err.r.detail c.in-Err.ensures.0, c.in-Err.ensures.1)
