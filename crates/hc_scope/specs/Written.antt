-- Expressions of the program as those of a core.
use Rattle.hc_core.specs.declared.expr.Expr.{Expr}
use Rattle.hc_core.specs.declared.expr.Expr.TheVariants as e
use Rattle.hc_core.specs.Program.{Expression, Constant, Register, Element, Word, Signal, Input, Unary, Binary, Slice, Choice}

-- the expression of a core that has this one as its reading
unfoldable pub written : Expression → Expr
written (Constant n) = e.Const n
written (Register k) = e.Reg k
written (Element k i) = e.Element k (written i)
written (Word k i) = e.Word k (written i)
written (Signal k) = e.Signal k
written (Input k) = e.Input k
written (Unary op a) = e.Unary op (written a)
written (Binary op a b) = e.Binary op (written a) (written b)
written (Slice a high low) = e.Slice (written a) high low
written (Choice c a b) = e.Choice (written c) (written a) (written b)
