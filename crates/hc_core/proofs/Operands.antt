-- What can be weighed has operands that can be, and a width and a weight within bounds.
use Rattle.std.proofs.Common.{◌≡◌, ℕ, ◌^◌, ◌<◌, ◌≤◌, List, Bool, ap, ◌∙◌, subst, arith}
use Rattle.hc_core.specs.Program.{Expression, Element, Word, Unary, Binary, Slice, Choice}
use Rattle.hc_core.specs.Read.{expression}
use Rattle.hc_core.specs.Typed.{Typed, HasSomeType, constant, element, ram_word, rom_word, negative, complement, is_zero, to_signed, to_unsigned, arithmetic, division, bitwise, comparison, shift, joining, taking, dropping, logic, slice, choice, width_of}
use Rattle.hc_core.specs.Weight.{expression_weight}
use Rattle.hc_core.specs.Weigh.{CanWeigh}
use Rattle.hc_core.specs.declared.expr.UnOp.{UnOp}
use Rattle.hc_core.specs.declared.expr.BinOp.{BinOp}
use Rattle.hc_core.specs.declared.expr.Expr.{Expr}
use Rattle.hc_core.specs.declared.expr.Expr.TheVariants as e
use Rattle.hc_core.specs.declared.object.Kind.{Kind}
use Rattle.hc_core.proofs.Bounds.{narrow, light}
use Rattle.hc_core.proofs.Types.{widths_are}
use Rattle.hc_core.proofs.Read.{read_Element, read_Word, read_Unary, read_Binary, read_Slice, read_Choice}

pub width_bound : (kinds : List Kind) (x : Expression) → CanWeigh kinds x → width_of kinds x ≤ 128
width_bound kinds x can =
    let h = narrow kinds can.sound x _ _ can.typed.2 in
    rw (widths_are kinds x _ _ can.typed.2) h.most

pub weight_bound : (kinds : List Kind) (x : Expression) → CanWeigh kinds x → expression_weight kinds x < 2 ^ 57
weight_bound kinds x can =
    let h = light kinds can.sound x _ _ can.typed.2 in
    let f = can.few in
    omega arith

-- ---- the types of operands

element_typed : (kinds : List Kind) (k w : ℕ) (s : Bool) (i : Expression) → Typed kinds (Element k i) w s → HasSomeType kinds i
element_typed kinds k w s i (element j v n r init x is t) = (_, _, t)

word_typed : (kinds : List Kind) (k w : ℕ) (s : Bool) (i : Expression) → Typed kinds (Word k i) w s → HasSomeType kinds i
word_typed kinds k w s i (ram_word j v n r init x is t) = (_, _, t)
word_typed kinds k w s i (rom_word j v n r init x is t) = (_, _, t)

unary_typed : (kinds : List Kind) (op : UnOp) (w : ℕ) (s : Bool) (a : Expression) → Typed kinds (Unary op a) w s → HasSomeType kinds a
unary_typed kinds op w s a (negative x v r t) = (_, _, t)
unary_typed kinds op w s a (complement x v r t) = (_, _, t)
unary_typed kinds op w s a (is_zero x v r t) = (_, _, t)
unary_typed kinds op w s a (to_signed x v r t) = (_, _, t)
unary_typed kinds op w s a (to_unsigned x v r t) = (_, _, t)

binary_typed : (kinds : List Kind) (op : BinOp) (w : ℕ) (s : Bool) (a b : Expression) → Typed kinds (Binary op a b) w s → HasSomeType kinds a × HasSomeType kinds b
binary_typed kinds op w s a b (arithmetic o x y v r is t u) = ((_, _, t), (_, _, u))
binary_typed kinds op w s a b (division o x y v is t u) = ((_, _, t), (_, _, u))
binary_typed kinds op w s a b (bitwise o x y v r is t u) = ((_, _, t), (_, _, u))
binary_typed kinds op w s a b (comparison o x y v r is t u) = ((_, _, t), (_, _, u))
binary_typed kinds op w s a b (shift o x y v z r is t u) = ((_, _, t), (_, _, u))
binary_typed kinds op w s a b (joining o x y v z r q is t u most) = ((_, _, t), (_, _, u))
binary_typed kinds op w s a b (taking o x n v r is t amount least most) = ((_, _, t), (_, _, constant n amount.number))
binary_typed kinds op w s a b (dropping o x n v r is t amount below) = ((_, _, t), (_, _, constant n amount.number))
binary_typed kinds op w s a b (logic o x y v z r q is t u) = ((_, _, t), (_, _, u))

slice_typed : (kinds : List Kind) (a : Expression) (high low w : ℕ) (s : Bool) → Typed kinds (Slice a high low) w s → HasSomeType kinds a
slice_typed kinds a high low w s (slice x i j v r t least below) = (_, _, t)

choice_typed : (kinds : List Kind) (w : ℕ) (s : Bool) (c a b : Expression) → Typed kinds (Choice c a b) w s → HasSomeType kinds c × HasSomeType kinds a × HasSomeType kinds b
choice_typed kinds w s c a b (choice x y z v u r q t₁ t₂ t₃) = ((_, _, t₁), (_, _, t₂), (_, _, t₃))

-- ---- what the code finds in each arm: an expression of a core that is of some form

-- an expression that equals one that can be weighed
as_read : (kinds : List Kind) (x : Expr) (y : Expression) → expression x ≡ y → CanWeigh kinds (expression x) → CanWeigh kinds y
as_read kinds x y is can = subst (λ z. CanWeigh kinds z) is can

pub element_index : (kinds : List Kind) (x : Expr) (k : ℕ) (i : Expr) → x ≡ e.Element k i → CanWeigh kinds (expression x) → CanWeigh kinds (expression i)
element_index kinds x k i is can =
    let c = as_read kinds x _ (ap expression is ∙ read_Element k i) can in
    record { sound = c.sound; typed = element_typed kinds k _ _ (expression i) c.typed.2; few = let f = c.few in omega arith }

pub word_index : (kinds : List Kind) (x : Expr) (k : ℕ) (i : Expr) → x ≡ e.Word k i → CanWeigh kinds (expression x) → CanWeigh kinds (expression i)
word_index kinds x k i is can =
    let c = as_read kinds x _ (ap expression is ∙ read_Word k i) can in
    record { sound = c.sound; typed = word_typed kinds k _ _ (expression i) c.typed.2; few = let f = c.few in omega arith }

pub unary_operand : (kinds : List Kind) (x : Expr) (op : UnOp) (a : Expr) → x ≡ e.Unary op a → CanWeigh kinds (expression x) → CanWeigh kinds (expression a)
unary_operand kinds x op a is can =
    let c = as_read kinds x _ (ap expression is ∙ read_Unary op a) can in
    record { sound = c.sound; typed = unary_typed kinds op _ _ (expression a) c.typed.2; few = let f = c.few in omega arith }

pub first_operand : (kinds : List Kind) (x : Expr) (op : BinOp) (a b : Expr) → x ≡ e.Binary op a b → CanWeigh kinds (expression x) → CanWeigh kinds (expression a)
first_operand kinds x op a b is can =
    let c = as_read kinds x _ (ap expression is ∙ read_Binary op a b) can in
    record { sound = c.sound; typed = (binary_typed kinds op _ _ (expression a) (expression b) c.typed.2).0; few = let f = c.few in omega arith }

pub second_operand : (kinds : List Kind) (x : Expr) (op : BinOp) (a b : Expr) → x ≡ e.Binary op a b → CanWeigh kinds (expression x) → CanWeigh kinds (expression b)
second_operand kinds x op a b is can =
    let c = as_read kinds x _ (ap expression is ∙ read_Binary op a b) can in
    record { sound = c.sound; typed = (binary_typed kinds op _ _ (expression a) (expression b) c.typed.2).1; few = let f = c.few in omega arith }

pub sliced : (kinds : List Kind) (x a : Expr) (high low : ℕ) → x ≡ e.Slice a high low → CanWeigh kinds (expression x) → CanWeigh kinds (expression a)
sliced kinds x a high low is can =
    let c = as_read kinds x _ (ap expression is ∙ read_Slice a high low) can in
    record { sound = c.sound; typed = slice_typed kinds (expression a) high low _ _ c.typed.2; few = let f = c.few in omega arith }

-- the condition and the sides of a choice
pub record Chosen (kinds : List Kind) (c a b : Expression) : Type 0 where
  pub condition : CanWeigh kinds c
  pub first : CanWeigh kinds a
  pub second : CanWeigh kinds b

pub chosen : (kinds : List Kind) (x c a b : Expr) → x ≡ e.Choice c a b → CanWeigh kinds (expression x) → Chosen kinds (expression c) (expression a) (expression b)
chosen kinds x c a b is can =
    let all = as_read kinds x _ (ap expression is ∙ read_Choice c a b) can in
    let types = choice_typed kinds _ _ (expression c) (expression a) (expression b) all.typed.2 in
    let f = all.few in
    record {
      condition = record { sound = all.sound; typed = types.0; few = omega arith };
      first = record { sound = all.sound; typed = types.1; few = omega arith };
      second = record { sound = all.sound; typed = types.2; few = omega arith };
    }

pub ruleset weighing = (width_bound, weight_bound, element_index, word_index, unary_operand, first_operand, second_operand, sliced, chosen)
