-- What an expression of a core of some form reads, and of which types.
use Rattle.std.proofs.Common.{◌≡◌, ◌<◌, ◌≤◌, ℕ, ◌^◌, List, ap, ◌∙◌, subst}
use Rattle.std.specs.Prelude.{slice_get, slice_index_or}
use Rattle.hc_core.specs.Program.{Expression}
use Rattle.hc_core.specs.Read.{expression}
use Rattle.hc_core.specs.Typed.{HasSomeType, kind_width, group_of}
use Rattle.hc_core.specs.declared.expr.UnOp.{UnOp}
use Rattle.hc_core.specs.declared.expr.BinOp.{BinOp}
use Rattle.hc_core.specs.declared.expr.Expr.{Expr}
use Rattle.hc_core.specs.declared.expr.Expr.TheVariants as e
use Rattle.hc_core.specs.declared.object.Kind.{Kind}
use Rattle.hc_core.proofs.Read.{read_Reg, read_Signal, read_Input, read_Element, read_Word, read_Unary, read_Binary, read_Slice, read_Choice}
use Rattle.hc_meaning.specs.Value.{World, number_of, inputs_before}
use Rattle.hc_sim.specs.Fitting.{Fitting}
use Rattle.hc_sim.specs.Readable.{IsReadable, IsPlaced}
use Rattle.hc_sim.proofs.Typing as t

typed_as : (kinds : List Kind) (x : Expr) (y : Expression) → expression x ≡ y → HasSomeType kinds (expression x) → HasSomeType kinds y
typed_as kinds x y is h = subst (HasSomeType kinds) is h

module _ (w : World) (r : IsReadable w) (x : Expr) (h : HasSomeType w.kinds (expression x)) where
  pub reg_placed : (k : ℕ) → x ≡ e.Reg k → IsPlaced w.kinds k
  reg_placed k is = t.register_placed w.kinds r.sound k (typed_as w.kinds x _ (ap expression is ∙ read_Reg k) h)

  pub signal_placed : (k : ℕ) → x ≡ e.Signal k → IsPlaced w.kinds k
  signal_placed k is = t.signal_placed w.kinds r.sound k (typed_as w.kinds x _ (ap expression is ∙ read_Signal k) h)

  pub input_placed : (k : ℕ) → x ≡ e.Input k → IsPlaced w.kinds k
  input_placed k is = t.input_placed w.kinds r.sound k (typed_as w.kinds x _ (ap expression is ∙ read_Input k) h)

  pub input_fits : (k : ℕ) → x ≡ e.Input k → slice_index_or w.inputs (inputs_before w.kinds k) 0 < 2 ^ kind_width (slice_get w.kinds k)
  input_fits k is = t.input_fits w r k (typed_as w.kinds x _ (ap expression is ∙ read_Input k) h)

  pub element_placed : (k : ℕ) (i : Expr) → x ≡ e.Element k i → IsPlaced w.kinds k
  element_placed k i is = t.element_placed w.kinds r.sound k (expression i) (typed_as w.kinds x _ (ap expression is ∙ read_Element k i) h)

  pub word_placed : (k : ℕ) (i : Expr) → x ≡ e.Word k i → IsPlaced w.kinds k
  word_placed k i is = t.word_placed w.kinds r.sound k (expression i) (typed_as w.kinds x _ (ap expression is ∙ read_Word k i) h)

  pub element_index : (k : ℕ) (i : Expr) → x ≡ e.Element k i → HasSomeType w.kinds (expression i)
  element_index k i is = t.element_index w.kinds k (expression i) (typed_as w.kinds x _ (ap expression is ∙ read_Element k i) h)

  pub word_index : (k : ℕ) (i : Expr) → x ≡ e.Word k i → HasSomeType w.kinds (expression i)
  word_index k i is = t.word_index w.kinds k (expression i) (typed_as w.kinds x _ (ap expression is ∙ read_Word k i) h)

  pub operand : (op : UnOp) (a : Expr) → x ≡ e.Unary op a → HasSomeType w.kinds (expression a)
  operand op a is = t.operand w.kinds op (expression a) (typed_as w.kinds x _ (ap expression is ∙ read_Unary op a) h)

  pub first_operand : (op : BinOp) (a b : Expr) → x ≡ e.Binary op a b → HasSomeType w.kinds (expression a)
  first_operand op a b is = t.left w.kinds op (expression a) (expression b) (typed_as w.kinds x _ (ap expression is ∙ read_Binary op a b) h)

  pub second_operand : (op : BinOp) (a b : Expr) → x ≡ e.Binary op a b → HasSomeType w.kinds (expression b)
  second_operand op a b is = t.right w.kinds op (expression a) (expression b) (typed_as w.kinds x _ (ap expression is ∙ read_Binary op a b) h)

  pub operands_fit : (op : BinOp) (a b : Expr) → x ≡ e.Binary op a b → Fitting (group_of op) (number_of w (expression a)) (number_of w (expression b))
  operands_fit op a b is = t.operands_fit w op (expression a) (expression b) (typed_as w.kinds x _ (ap expression is ∙ read_Binary op a b) h)

  pub sliced : (a : Expr) (high low : ℕ) → x ≡ e.Slice a high low → HasSomeType w.kinds (expression a)
  sliced a high low is = t.sliced w.kinds (expression a) high low (typed_as w.kinds x _ (ap expression is ∙ read_Slice a high low) h)

  pub sliced_order : (a : Expr) (high low : ℕ) → x ≡ e.Slice a high low → low ≤ high
  sliced_order a high low is = t.sliced_order w.kinds (expression a) high low (typed_as w.kinds x _ (ap expression is ∙ read_Slice a high low) h)

  pub sliced_within : (a : Expr) (high low : ℕ) → x ≡ e.Slice a high low → high < (number_of w (expression a)).width
  sliced_within a high low is = t.sliced_within w (expression a) high low (typed_as w.kinds x _ (ap expression is ∙ read_Slice a high low) h)

  pub chosen_by : (c a b : Expr) → x ≡ e.Choice c a b → HasSomeType w.kinds (expression c)
  chosen_by c a b is = t.chosen_by w.kinds (expression c) (expression a) (expression b) (typed_as w.kinds x _ (ap expression is ∙ read_Choice c a b) h)

  pub first_side : (c a b : Expr) → x ≡ e.Choice c a b → HasSomeType w.kinds (expression a)
  first_side c a b is = t.first_side w.kinds (expression c) (expression a) (expression b) (typed_as w.kinds x _ (ap expression is ∙ read_Choice c a b) h)

  pub second_side : (c a b : Expr) → x ≡ e.Choice c a b → HasSomeType w.kinds (expression b)
  second_side c a b is = t.second_side w.kinds (expression c) (expression a) (expression b) (typed_as w.kinds x _ (ap expression is ∙ read_Choice c a b) h)
