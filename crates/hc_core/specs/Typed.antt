-- Which type an expression has: its width in bits, and whether it has a sign (the operators' rows follow the Handel-C
-- manual, "Expressions"; where signs and indexes must agree is this project's own).
use Rattle.std.specs.Prelude.{◌≡◌, ◌<◌, ◌≤◌, ℕ, ◌+◌, ◌-◌, ◌^◌, List, map, Bool, true, false, Option, Some, None, slice_get}
use Rattle.hc_num.specs.Number.{Number}
use Rattle.hc_num.specs.Index.{index_width}
use Rattle.hc_core.specs.Program.{Expression, Constant, Register, Element, Word, Signal, Input, Unary, Binary, Slice, Choice}
use Rattle.hc_core.specs.declared.expr.UnOp.{UnOp}
use Rattle.hc_core.specs.declared.expr.UnOp.TheVariants.{Neg, Not, IsZero, ToSigned, ToUnsigned}
use Rattle.hc_core.specs.declared.expr.BinOp.{BinOp}
use Rattle.hc_core.specs.declared.expr.BinOp.TheVariants.{Add, Sub, Mul, Div, Rem, And, Or, Xor, Eq, Ne, Lt, Le, Gt, Ge, Shl, Shr, Concat, Take, Drop, Both, Either}
use Rattle.hc_core.specs.declared.object.Kind.{Kind}
use Rattle.hc_core.specs.declared.object.Kind.TheVariants as kind
use Rattle.hc_core.specs.declared.object.Object.{Object}

-- the kinds of the objects, by number
abbrev pub kinds_of : List Object → List Kind
kinds_of objects = map (λ o. o.kind) objects

-- a width from 1 to 128, and bits below 2^width
pub record IsNumber (n : Number) : Type 0 where
  pub least : 1 ≤ n.width
  pub most : n.width ≤ 128
  pub fits : n.bits < 2 ^ n.width

-- the amount of a take or a drop: an unsigned constant of 128 bits
pub record IsAmount (n : Number) : Type 0 where
  pub number : IsNumber n
  pub width : n.width ≡ 128
  pub unsigned : n.signed ≡ false

-- operators of two operands that follow one rule
pub data Group : Type 0 where
  Arithmetic : Group
  Division : Group
  Bitwise : Group
  Comparison : Group
  Shifting : Group
  Joining : Group
  Taking : Group
  Dropping : Group
  Logic : Group

abbrev pub group_of : BinOp → Group
group_of Add = Arithmetic
group_of Sub = Arithmetic
group_of Mul = Arithmetic
group_of Div = Division
group_of Rem = Division
group_of And = Bitwise
group_of Or = Bitwise
group_of Xor = Bitwise
group_of Eq = Comparison
group_of Ne = Comparison
group_of Lt = Comparison
group_of Le = Comparison
group_of Gt = Comparison
group_of Ge = Comparison
group_of Shl = Shifting
group_of Shr = Shifting
group_of Concat = Joining
group_of Take = Taking
group_of Drop = Dropping
group_of Both = Logic
group_of Either = Logic

-- The expression has this width and sign over objects of these kinds.
pub data Typed (kinds : List Kind) : Expression → ℕ → Bool → Type 0 where
  -- a constant: its own type
  constant : (n : Number) → IsNumber n → Typed kinds (Constant n) n.width n.signed
  -- an object: its type
  register : (k w : ℕ) (s : Bool) (init : Number) → slice_get kinds k ≡ Some (kind.Reg w s init) → Typed kinds (Register k) w s
  signal : (k w : ℕ) (s : Bool) (unset : Number) → slice_get kinds k ≡ Some (kind.Signal w s unset) → Typed kinds (Signal k) w s
  input : (k w : ℕ) (s : Bool) (pins : List (List ℕ)) → slice_get kinds k ≡ Some (kind.Input w s pins) → Typed kinds (Input k) w s
  -- a[i]: the type of an element, where i is unsigned and just wide enough for all indexes
  element : (k w n : ℕ) (s : Bool) (init : List Number) (i : Expression) → slice_get kinds k ≡ Some (kind.Array w s n init)
      → Typed kinds i (index_width n) false → Typed kinds (Element k i) w s
  ram_word : (k w n : ℕ) (s : Bool) (init : List Number) (i : Expression) → slice_get kinds k ≡ Some (kind.Ram w s n init)
      → Typed kinds i (index_width n) false → Typed kinds (Word k i) w s
  rom_word : (k w n : ℕ) (s : Bool) (init : List Number) (i : Expression) → slice_get kinds k ≡ Some (kind.Rom w s n init)
      → Typed kinds i (index_width n) false → Typed kinds (Word k i) w s
  -- -a and ~a: the same type
  negative : (a : Expression) (w : ℕ) (s : Bool) → Typed kinds a w s → Typed kinds (Unary Neg a) w s
  complement : (a : Expression) (w : ℕ) (s : Bool) → Typed kinds a w s → Typed kinds (Unary Not a) w s
  -- !a: one unsigned bit
  is_zero : (a : Expression) (w : ℕ) (s : Bool) → Typed kinds a w s → Typed kinds (Unary IsZero a) 1 false
  -- a cast: the same width
  to_signed : (a : Expression) (w : ℕ) (s : Bool) → Typed kinds a w s → Typed kinds (Unary ToSigned a) w true
  to_unsigned : (a : Expression) (w : ℕ) (s : Bool) → Typed kinds a w s → Typed kinds (Unary ToUnsigned a) w false
  -- a + b, a - b, a * b: two operands of one type, and the same type
  arithmetic : (op : BinOp) (a b : Expression) (w : ℕ) (s : Bool) → group_of op ≡ Arithmetic → Typed kinds a w s → Typed kinds b w s
      → Typed kinds (Binary op a b) w s
  -- a / b, a % b: two unsigned operands of one width, and the same type
  division : (op : BinOp) (a b : Expression) (w : ℕ) → group_of op ≡ Division → Typed kinds a w false → Typed kinds b w false
      → Typed kinds (Binary op a b) w false
  -- a & b, a | b, a ^ b: two operands of one type, and the same type
  bitwise : (op : BinOp) (a b : Expression) (w : ℕ) (s : Bool) → group_of op ≡ Bitwise → Typed kinds a w s → Typed kinds b w s
      → Typed kinds (Binary op a b) w s
  -- comparisons: two operands of one type, and one unsigned bit
  comparison : (op : BinOp) (a b : Expression) (w : ℕ) (s : Bool) → group_of op ≡ Comparison → Typed kinds a w s → Typed kinds b w s
      → Typed kinds (Binary op a b) 1 false
  -- a << n, a >> n: the type of a, where n is unsigned of any width
  shift : (op : BinOp) (a b : Expression) (w v : ℕ) (s : Bool) → group_of op ≡ Shifting → Typed kinds a w s → Typed kinds b v false
      → Typed kinds (Binary op a b) w s
  -- a @ b: the sum of the widths, and the sign of a
  joining : (op : BinOp) (a b : Expression) (w v : ℕ) (s r : Bool) → group_of op ≡ Joining → Typed kinds a w s → Typed kinds b v r → w + v ≤ 128
      → Typed kinds (Binary op a b) (w + v) s
  -- a <- n: n bits, from 1 to the width of a, and the sign of a
  taking : (op : BinOp) (a : Expression) (n : Number) (w : ℕ) (s : Bool) → group_of op ≡ Taking → Typed kinds a w s → IsAmount n → 1 ≤ n.bits → n.bits ≤ w
      → Typed kinds (Binary op a (Constant n)) n.bits s
  -- a \\ n: n bits less, where n is below the width of a, and the sign of a
  dropping : (op : BinOp) (a : Expression) (n : Number) (w : ℕ) (s : Bool) → group_of op ≡ Dropping → Typed kinds a w s → IsAmount n → n.bits < w
      → Typed kinds (Binary op a (Constant n)) (w - n.bits) s
  -- a && b, a || b: two operands of any types, and one unsigned bit
  logic : (op : BinOp) (a b : Expression) (w v : ℕ) (s r : Bool) → group_of op ≡ Logic → Typed kinds a w s → Typed kinds b v r
      → Typed kinds (Binary op a b) 1 false
  -- a[high:low]: so many unsigned bits
  slice : (a : Expression) (high low w : ℕ) (s : Bool) → Typed kinds a w s → low ≤ high → high < w
      → Typed kinds (Slice a high low) (high - low + 1) false
  -- c ? a : b: two sides of one type, and the same type; the condition has any type
  choice : (c a b : Expression) (v w : ℕ) (r s : Bool) → Typed kinds c v r → Typed kinds a w s → Typed kinds b w s
      → Typed kinds (Choice c a b) w s

-- the expression has some type
abbrev pub HasSomeType : List Kind → Expression → Type 0
HasSomeType kinds e = (w : ℕ) × (s : Bool) × Typed kinds e w s

-- ---- the width of an expression that has a type, computed

-- the width of an object, or 0 where there is none
abbrev pub kind_width : Option Kind → ℕ
kind_width None = 0
kind_width (Some (kind.Reg w s init)) = w
kind_width (Some (kind.Array w s n init)) = w
kind_width (Some (kind.Ram w s n init)) = w
kind_width (Some (kind.Rom w s n init)) = w
kind_width (Some (kind.Signal w s unset)) = w
kind_width (Some (kind.Chan w s queue)) = w
kind_width (Some (kind.Input w s pins)) = w
kind_width (Some (kind.Output w s pins value)) = w

-- whether an object has a sign
abbrev pub kind_sign : Option Kind → Bool
kind_sign None = false
kind_sign (Some (kind.Reg w s init)) = s
kind_sign (Some (kind.Array w s n init)) = s
kind_sign (Some (kind.Ram w s n init)) = s
kind_sign (Some (kind.Rom w s n init)) = s
kind_sign (Some (kind.Signal w s unset)) = s
kind_sign (Some (kind.Chan w s queue)) = s
kind_sign (Some (kind.Input w s pins)) = s
kind_sign (Some (kind.Output w s pins value)) = s

-- the number of a constant, and 0 for any other expression
abbrev pub constant_of : Expression → ℕ
constant_of (Constant n) = n.bits
constant_of (Register k) = 0
constant_of (Element k i) = 0
constant_of (Word k i) = 0
constant_of (Signal k) = 0
constant_of (Input k) = 0
constant_of (Unary op a) = 0
constant_of (Binary op a b) = 0
constant_of (Slice a high low) = 0
constant_of (Choice c a b) = 0

-- the width that an operator gives an operand of width w
abbrev pub unary_width : UnOp → ℕ → ℕ
unary_width Neg w = w
unary_width Not w = w
unary_width IsZero w = 1
unary_width ToSigned w = w
unary_width ToUnsigned w = w

-- whether what an operator gives has a sign, where the operand has sign s
abbrev pub unary_sign : UnOp → Bool → Bool
unary_sign Neg s = s
unary_sign Not s = s
unary_sign IsZero s = false
unary_sign ToSigned s = true
unary_sign ToUnsigned s = false

-- the width that a group's operators give operands of widths w and v, of which the second is the constant n if it is one
abbrev pub group_width : Group → ℕ → ℕ → ℕ → ℕ
group_width Arithmetic w v n = w
group_width Division w v n = w
group_width Bitwise w v n = w
group_width Comparison w v n = 1
group_width Shifting w v n = w
group_width Joining w v n = w + v
group_width Taking w v n = n
group_width Dropping w v n = w - n
group_width Logic w v n = 1

-- whether what a group's operators give has a sign, where the first operand has sign s
abbrev pub group_sign : Group → Bool → Bool
group_sign Arithmetic s = s
group_sign Division s = s
group_sign Bitwise s = s
group_sign Comparison s = false
group_sign Shifting s = s
group_sign Joining s = s
group_sign Taking s = s
group_sign Dropping s = s
group_sign Logic s = false

-- the width of an expression
abbrev pub width_of : List Kind → Expression → ℕ
width_of kinds (Constant n) = n.width
width_of kinds (Register k) = kind_width (slice_get kinds k)
width_of kinds (Element k i) = kind_width (slice_get kinds k)
width_of kinds (Word k i) = kind_width (slice_get kinds k)
width_of kinds (Signal k) = kind_width (slice_get kinds k)
width_of kinds (Input k) = kind_width (slice_get kinds k)
width_of kinds (Unary op a) = unary_width op (width_of kinds a)
width_of kinds (Binary op a b) = group_width (group_of op) (width_of kinds a) (width_of kinds b) (constant_of b)
width_of kinds (Slice a high low) = high - low + 1
width_of kinds (Choice c a b) = width_of kinds a

-- whether an expression has a sign
abbrev pub sign_of : List Kind → Expression → Bool
sign_of kinds (Constant n) = n.signed
sign_of kinds (Register k) = kind_sign (slice_get kinds k)
sign_of kinds (Element k i) = kind_sign (slice_get kinds k)
sign_of kinds (Word k i) = kind_sign (slice_get kinds k)
sign_of kinds (Signal k) = kind_sign (slice_get kinds k)
sign_of kinds (Input k) = kind_sign (slice_get kinds k)
sign_of kinds (Unary op a) = unary_sign op (sign_of kinds a)
sign_of kinds (Binary op a b) = group_sign (group_of op) (sign_of kinds a)
sign_of kinds (Slice a high low) = false
sign_of kinds (Choice c a b) = sign_of kinds a
