use Rattle.std.proofs.Common.{ap, ◌∙◌, sym, ◌≡◌}
use Rattle.hc_core.specs.Program.{Unary}
use Rattle.hc_core.specs.Read.{expression}
use Rattle.hc_core.specs.Typed.{kinds_of, width_of}
use Rattle.hc_width.specs.Operand.{Of}
use Rattle.hc_width.specs.Judged.{Gives}
use Rattle.hc_width.specs.Unary.{cast}
use Rattle.hc_width.proofs.Steps.{answers_as, same_widths}
use Rattle.hc_width.proofs.one_operand.cast_expression.Goals as goal

pub returns-then-width-found : goal.returns-then-width-found
unfolding cast
returns-then-width-found c =
    let e = expression c.args.e in
    let w : c.args.width ≡ width_of (kinds_of c.args.objects.now) e = c.if-width-found.true ∙ c.type_of-found.ensures.width in
    answers_as (cast (kinds_of c.args.objects.now) c.args.width c.args.signed (Of e)) _ c.args.place _
    (same_widths _ _ _ w ∙ ap (λ op. Gives (Of (Unary op e))) (sym c.cast_to.ensures))
    (c.unary_of.ensures c.args.place)
