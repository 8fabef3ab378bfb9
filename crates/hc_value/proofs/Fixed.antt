-- The constant that an expression of a core is.
use Rattle.std.proofs.Common.{◌≡◌, ℕ, List, ap, ◌∙◌}
use Rattle.hc_num.specs.Number.{Number}
use Rattle.hc_core.specs.Program.{Constant}
use Rattle.hc_core.specs.Read.{expression}
use Rattle.hc_core.specs.declared.expr.Expr.{Expr}
use Rattle.hc_core.specs.declared.expr.Expr.TheVariants as e
use Rattle.hc_core.specs.declared.expr.Expr.TheBlock as eb
use Rattle.hc_core.proofs.Read.{read_Const}
use Rattle.hc_value.specs.Moves.{constant_nets}

-- an expression that is one constant is no other
pub same_constant : (x : Expr) (n m : Number) → x ≡ e.Const n → expression x ≡ Constant m → n ≡ m
same_constant x n m is other = let form : expression x ≡ Constant n = ap expression is ∙ read_Const n in cc

-- what is read as a constant is one
pub not_constant : (x : Expr) (m : Number) → ((n : Number) → x ≡ e.Const n → ⊥) → expression x ≡ Constant m → ⊥
unfolding expression
not_constant (e.Const n) m differs is = differs n (λ i. e.Const n)
not_constant (e.Reg k) m differs is = cc
not_constant (e.Element' k p (eb.more_of-Expr i eb.end_of-Expr)) m differs is = cc
not_constant (e.Word' k p (eb.more_of-Expr i eb.end_of-Expr)) m differs is = cc
not_constant (e.Signal k) m differs is = cc
not_constant (e.Input k) m differs is = cc
not_constant (e.Unary' op p (eb.more_of-Expr a eb.end_of-Expr)) m differs is = cc
not_constant (e.Binary' op p (eb.more_of-Expr a eb.end_of-Expr) q (eb.more_of-Expr b eb.end_of-Expr)) m differs is = cc
not_constant (e.Slice' p (eb.more_of-Expr a eb.end_of-Expr) high low) m differs is = cc
not_constant (e.Choice' p (eb.more_of-Expr c eb.end_of-Expr) q (eb.more_of-Expr a eb.end_of-Expr) r (eb.more_of-Expr b eb.end_of-Expr)) m differs is = cc

-- the nets of a constant, whichever number names it
pub constant_is : (low high : ℕ) (x : Expr) (nets : List ℕ) (n m : Number) → x ≡ e.Const n → nets ≡ constant_nets low high n → expression x ≡ Constant m → nets ≡ constant_nets low high m
constant_is low high x nets n m is nets_are other = nets_are ∙ ap (λ k. constant_nets low high k) (same_constant x n m is other)
