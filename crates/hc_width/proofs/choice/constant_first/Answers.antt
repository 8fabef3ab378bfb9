use Rattle.std.proofs.Common.{ap, ◌∙◌}
use Rattle.hc_core.specs.Program.{Choice, Constant}
use Rattle.hc_core.specs.Read.{expression}
use Rattle.hc_core.specs.Typed.{kinds_of}
use Rattle.hc_width.specs.Operand as o
use Rattle.hc_width.specs.Judged.{Gives}
use Rattle.hc_width.specs.Parts.{choose}
use Rattle.hc_width.proofs.Steps.{answers_as, choose_first, choose_first_breaks}
use Rattle.hc_width.proofs.choice.constant_first.Goals as goal

pub returns-in-Ok : goal.returns-in-Ok
unfolding expression
returns-in-Ok c = λ by is.
    let kinds = kinds_of c.args.objects.now in
    let b = expression c.args.b in
    answers_as (choose kinds by (o.Whole c.args.a) (o.Of b)) _ c.args.place _
    (choose_first kinds by c.args.a b c.in-Ok.n c.in-Ok.ensures ∙ ap (λ x. Gives (o.Of (Choice x (Constant c.in-Ok.n) b))) is)
    (c.choice_of.ensures c.args.place)

pub returns-in-Err : goal.returns-in-Err
returns-in-Err c = λ by is.
    (choose_first_breaks (kinds_of c.args.objects.now) by c.args.a (expression c.args.b) c.in-Err.r.rule c.in-Err.r.detail c.in-Err.ensures.0, c.in-Err.ensures.1)
