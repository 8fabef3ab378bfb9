-- Constants that are conditions.
use Rattle.std.proofs.Common.{List, subst, sym}
use Rattle.hc_num.specs.Number.{Number}
use Rattle.hc_core.specs.Program.{Expression, Constant}
use Rattle.hc_core.specs.Read.{expression}
use Rattle.hc_core.specs.Typed.{HasSomeType, IsNumber, constant}
use Rattle.hc_core.specs.declared.expr.Expr.TheVariants.{Const}
use Rattle.hc_core.specs.declared.object.Kind.{Kind}
use Rattle.hc_core.proofs.Read.{read_Const}

-- a constant has a type
pub number_has : (kinds : List Kind) (n : Number) → IsNumber n → HasSomeType kinds (expression (Const n))
number_has kinds n is =
    let has : HasSomeType kinds (Constant n) = (n.width, n.signed, constant n is) in
    subst (λ (e : Expression). HasSomeType kinds e) (sym (read_Const n)) has
