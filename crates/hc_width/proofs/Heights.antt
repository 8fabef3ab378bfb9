-- The number of nodes of an expression, by which a recursion over it ends.
use Rattle.std.proofs.Common.{◌≡◌, ◌<◌, ℕ, suc, ◌+◌, ap, ◌∙◌, arith}
use Rattle.hc_core.proofs.Read.{read_Unary, read_Binary, read_Slice, read_Choice}
use Rattle.hc_core.specs.Program.{Expression, Constant, Register, Element, Word, Signal, Input, Unary, Binary, Slice, Choice}
use Rattle.hc_core.specs.Read.{expression}
use Rattle.hc_core.specs.declared.expr.UnOp.{UnOp}
use Rattle.hc_core.specs.declared.expr.BinOp.{BinOp}
use Rattle.hc_core.specs.declared.expr.Expr.{Expr}
use Rattle.hc_core.specs.declared.expr.Expr.TheVariants as e

abbrev pub nodes : Expression → ℕ
nodes (Constant n) = 1
nodes (Register k) = 1
nodes (Element k i) = suc (nodes i)
nodes (Word k i) = suc (nodes i)
nodes (Signal k) = 1
nodes (Input k) = 1
nodes (Unary op a) = suc (nodes a)
nodes (Binary op a b) = suc (nodes a + nodes b)
nodes (Slice a high low) = suc (nodes a)
nodes (Choice c a b) = suc (nodes c + nodes a + nodes b)

pub fewer_unary : (x : Expr) (op : UnOp) (a y : Expr) → x ≡ e.Unary op a → y ≡ a → nodes (expression y) < nodes (expression x)
fewer_unary x op a y is here =
    let whole = ap (λ z. nodes (expression z)) is ∙ ap nodes (read_Unary op a) in
    let part = ap (λ z. nodes (expression z)) here in
    omega arith

pub fewer_left : (x : Expr) (op : BinOp) (a b y : Expr) → x ≡ e.Binary op a b → y ≡ a → nodes (expression y) < nodes (expression x)
fewer_left x op a b y is here =
    let whole = ap (λ z. nodes (expression z)) is ∙ ap nodes (read_Binary op a b) in
    let part = ap (λ z. nodes (expression z)) here in
    omega arith

pub fewer_right : (x : Expr) (op : BinOp) (a b y : Expr) → x ≡ e.Binary op a b → y ≡ b → nodes (expression y) < nodes (expression x)
fewer_right x op a b y is here =
    let whole = ap (λ z. nodes (expression z)) is ∙ ap nodes (read_Binary op a b) in
    let part = ap (λ z. nodes (expression z)) here in
    omega arith

pub fewer_slice : (x a y : Expr) (high low : ℕ) → x ≡ e.Slice a high low → y ≡ a → nodes (expression y) < nodes (expression x)
fewer_slice x a y high low is here =
    let whole = ap (λ z. nodes (expression z)) is ∙ ap nodes (read_Slice a high low) in
    let part = ap (λ z. nodes (expression z)) here in
    omega arith

pub fewer_choice : (x c a b y : Expr) → x ≡ e.Choice c a b → y ≡ a → nodes (expression y) < nodes (expression x)
fewer_choice x c a b y is here =
    let whole = ap (λ z. nodes (expression z)) is ∙ ap nodes (read_Choice c a b) in
    let part = ap (λ z. nodes (expression z)) here in
    omega arith
