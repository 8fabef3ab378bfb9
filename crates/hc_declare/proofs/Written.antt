-- An expression of a core is the one that has its reading.
use Rattle.std.proofs.Common.{◌≡◌, refl, ap, ◌∙◌}
use Rattle.hc_core.specs.Read.{expression}
use Rattle.hc_core.specs.declared.expr.Expr.{Expr}
use Rattle.hc_core.specs.declared.expr.Expr.TheVariants as e
use Rattle.hc_core.specs.declared.expr.Expr.TheBlock as eb
use Rattle.hc_scope.specs.Written.{written}

pub written_expression : (x : Expr) → written (expression x) ≡ x
unfolding written expression eb.hidden-the_row-Expr-0 denote.Hole.Carrier.hidden
written_expression (e.Const n) = refl
written_expression (e.Reg k) = refl
written_expression (e.Element' k p (eb.more_of-Expr i eb.end_of-Expr)) = ap (e.Element k) (written_expression i)
written_expression (e.Word' k p (eb.more_of-Expr i eb.end_of-Expr)) = ap (e.Word k) (written_expression i)
written_expression (e.Signal k) = refl
written_expression (e.Input k) = refl
written_expression (e.Unary' op p (eb.more_of-Expr a eb.end_of-Expr)) = ap (e.Unary op) (written_expression a)
written_expression (e.Binary' op p (eb.more_of-Expr a eb.end_of-Expr) q (eb.more_of-Expr b eb.end_of-Expr)) =
    ap (λ x. e.Binary op x (written (expression b))) (written_expression a) ∙ ap (e.Binary op a) (written_expression b)
written_expression (e.Slice' p (eb.more_of-Expr a eb.end_of-Expr) high low) = ap (λ x. e.Slice x high low) (written_expression a)
written_expression (e.Choice' p (eb.more_of-Expr c eb.end_of-Expr) q (eb.more_of-Expr a eb.end_of-Expr) r (eb.more_of-Expr b eb.end_of-Expr)) =
    ap (λ x. e.Choice x (written (expression a)) (written (expression b))) (written_expression c)
    ∙ ap (λ x. e.Choice c x (written (expression b))) (written_expression a)
    ∙ ap (e.Choice c a) (written_expression b)
