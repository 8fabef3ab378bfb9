use Rattle.std.proofs.Common.{sym}
use Rattle.hc_core.specs.Read.{expression}
use Rattle.hc_core.specs.Typed.{kinds_of}
use Rattle.hc_width.specs.Operand as o
use Rattle.hc_width.specs.Parts.{cut}
use Rattle.hc_width.proofs.Steps.{answers_as}
use Rattle.hc_width.proofs.parts.cut_expression.Goals as goal

pub returns-in-Some : goal.returns-in-Some
unfolding cut
returns-in-Some c =
    answers_as (cut (kinds_of c.args.objects.now) (o.Of (expression c.args.e)) c.args.high c.args.low) _ c.args.place _
    (c.in-Some.ensures (kinds_of c.args.objects.now) (expression c.args.e) (sym c.type_of-width.ensures.width))
    (c.slice_of.ensures c.args.place)
