-- Expressions and types (this project's profile of Handel-C).
use Rattle.std.specs.Prelude.{ℕ, ◌+◌, Bool, true, false, not, ◌&&◌, ◌||◌, ◌==◌, if◌then◌else◌, List, [], ◌∷◌, length, Option, Some, None, slice_get, ℤ, pos, int_le, int_lt, unsigned_abs}
use Rattle.std.specs.List.{list_any}
use Rattle.std.specs.Str.{bytes_eq}
use Rattle.hc_tree.specs.declared.place.Place.{Place}
use Rattle.hc_tree.specs.declared.name.Ident.{Ident}
use Rattle.hc_tree.specs.declared.refusal.Rule.TheVariants.{S4, S5, S6, S7, S8, S12, S13, S15}
use Rattle.hc_tree.specs.declared.refusal.Detail.TheVariants.{Nothing, Pair}
use Rattle.hc_tree.specs.declared.expr.ExprTree.{ExprTree, out-ExprTree}
use Rattle.hc_tree.specs.declared.expr.ExprTree.TheVariants as e
use Rattle.hc_tree.specs.declared.expr.ExprTree.TheOpen.{ExprTree-F, Type-F, Size-F}
use Rattle.hc_tree.specs.declared.expr.«Type».{«Type», out-Type}
use Rattle.hc_tree.specs.declared.expr.Size.{Size, out-Size}
use Rattle.hc_tree.specs.declared.expr.UnaryOp.{UnaryOp}
use Rattle.hc_tree.specs.declared.expr.UnaryOp.TheVariants as unary_op
use Rattle.hc_tree.specs.declared.expr.BinaryOp.{BinaryOp}
use Rattle.hc_tree.specs.declared.expr.BinaryOp.TheVariants as binary_op
use Rattle.hc_num.specs.Index.{index_width}
use Rattle.hc_core.specs.Program.{Expression, Constant, Register, Element, Word, Signal}
use Rattle.hc_core.specs.Program as core
use Rattle.hc_core.specs.Typed as typed
use Rattle.hc_core.specs.Typed.{sign_of}
use Rattle.hc_core.specs.declared.expr.UnOp.{UnOp}
use Rattle.hc_core.specs.declared.expr.UnOp.TheVariants as un
use Rattle.hc_core.specs.declared.expr.BinOp.{BinOp}
use Rattle.hc_core.specs.declared.expr.BinOp.TheVariants as bin
use Rattle.hc_core.specs.declared.object.Kind.{Kind}
use Rattle.hc_core.specs.declared.object.Kind.TheVariants as kind
use Rattle.hc_width.specs.Whole.{holds}
use Rattle.hc_width.specs.Operand.{Operand, Whole, Of}
use Rattle.hc_width.specs.Unary.{unary, cast}
use Rattle.hc_width.specs.Binary.{binary}
use Rattle.hc_width.specs.Parts.{cut, choose}
use Rattle.hc_scope.specs.Scope.{Meaning, an_object, an_interface, a_number, an_expression, a_procedure, an_argument, Scope, opened, declared, Found, find, Layer}
use Rattle.hc_scope.specs.Expansion.{Expansion, ◌>>=◌, ◌>>◌, ◌<$>◌, pure, refuse, refuse_name, unless_broken, kinds, judged}
use Rattle.hc_scope.specs.Parts.{Context, TypeOf, within, Shown, a_value, a_memory, Parts, place_of}

-- ---- constants

-- the constant that an expression has; S8 where it has none
abbrev pub needs_constant : Place → Operand → Expansion ℤ
needs_constant place (Whole v) = pure v
needs_constant place (Of x) = refuse S8 place Nothing

abbrev pub constant : Parts → Context → ExprTree → Expansion ℤ
constant p c x = p.expression c x >>= needs_constant (place_of x)

-- ---- types

abbrev pub size_layer : Size-F ExprTree Size «Type» → ExprTree
size_layer (Size-F.Size::Number place value) = e.Number place value
size_layer (Size-F.Size::Name x) = e.Name x
size_layer (Size-F.Expr x) = x

-- a size as an expression
abbrev pub size_expression : Size → ExprTree
size_expression size = size_layer (out-Size size)

-- a constant from 1 to 128; S13 where it isn't
abbrev pub width_by : Place → ℤ → Expansion ℕ
width_by place v = unless_broken (not (int_le (pos 1) v && int_le v (pos 128))) S13 place Nothing >> pure (unsigned_abs v)

abbrev pub width_of : Place → Operand → Expansion ℕ
width_of place v = needs_constant place v >>= width_by place

unfoldable pub width_in_range : Parts → Context → ExprTree → Expansion ℕ
width_in_range p c x = p.expression c x >>= width_of (place_of x)

abbrev pub type_layer : Parts → Context → Type-F ExprTree Size «Type» → Expansion TypeOf
type_layer p c (Type-F.Unsigned place is_int size) = (λ w. record { width = w; signed = false }) <$> width_in_range p c (size_expression size)
type_layer p c (Type-F.Int place is_signed size) = (λ w. record { width = w; signed = true }) <$> width_in_range p c (size_expression size)
type_layer p c (Type-F.Signed place size) = (λ w. record { width = w; signed = true }) <$> width_in_range p c (size_expression size)

abbrev pub type_of : Parts → Context → «Type» → Expansion TypeOf
type_of p c t = type_layer p c (out-Type t)

-- ---- names

-- the value of a register or signal; objects of other kinds can't stand as a value
abbrev pub kind_value : Ident → ℕ → Option Kind → Expansion Operand
kind_value x k (Some (kind.Reg w s init)) = pure (Of (Register k))
kind_value x k (Some (kind.Signal w s unset)) = pure (Of (Signal k))
kind_value x k _ = refuse_name S6 x

abbrev pub object_value : Ident → ℕ → Expansion Operand
object_value x k = kinds >>= (λ ks. kind_value x k (slice_get ks k))

-- the first parameter that has the name of one before it breaks S5
abbrev pub differ_from : List Ident → List Ident → Expansion (Unit {0})
differ_from before [] = pure tt
differ_from before (x ∷ rest) =
    if list_any (λ y. bytes_eq y.name x.name) before then refuse_name S5 x else differ_from (x ∷ before) rest

-- the parameters with their arguments, which have the scope of the call
abbrev pub bound : Scope → List Ident → List ExprTree → Scope → Scope
bound call [] arguments scope = scope
bound call (x ∷ parameters) [] scope = scope
bound call (x ∷ parameters) (argument ∷ arguments) scope = bound call parameters arguments (declared x.name (an_argument argument call) scope)

-- The context of a macro's body: its parameters are one scope. S5 where two are equal, then S7 where the call has another
-- number of arguments.
unfoldable pub call_context : Context → Ident → List Ident → Scope → List ExprTree → Expansion Context
call_context c x parameters scope arguments = do
  differ_from [] parameters
  unless_broken (not (length arguments == length parameters)) S7 x.place (Pair (length arguments) (length parameters))
  pure (record { scope = bound c.scope parameters arguments (opened scope); calls = c.calls + 1 })

unfoldable pub call_expression : Parts → Context → Ident → List Ident → ExprTree → Scope → List ExprTree → Expansion Operand
call_expression p c x parameters body scope arguments = call_context c x parameters scope arguments >>= (λ inner. p.expression inner body)

-- a name alone
abbrev pub value_by : Parts → Context → Ident → Scope → Meaning → Expansion Operand
value_by p c x scope (an_object k) = object_value x k
value_by p c x scope (an_interface k port) = refuse_name S6 x
value_by p c x scope (a_number v) = pure (Whole v)
value_by p c x scope (an_expression parameters body) = call_expression p c x parameters body scope []
value_by p c x scope (a_procedure parameters body) = refuse_name S6 x
value_by p c x scope (an_argument argument call) = p.expression (within call c) argument

abbrev pub value_found : Parts → Context → Ident → Option Found → Expansion Operand
value_found p c x None = refuse_name S4 x
value_found p c x (Some found) = value_by p c x found.scope found.meaning

unfoldable pub name_value : Parts → Context → Ident → Expansion Operand
name_value p c x = value_found p c x (find x.name c.scope)

-- a name with arguments
abbrev pub called_by : Parts → Context → Ident → List ExprTree → Scope → Meaning → Expansion Operand
called_by p c x arguments scope (an_expression parameters body) = call_expression p c x parameters body scope arguments
called_by p c x arguments scope _ = refuse_name S6 x

abbrev pub called_found : Parts → Context → Ident → List ExprTree → Option Found → Expansion Operand
called_found p c x arguments None = refuse_name S4 x
called_found p c x arguments (Some found) = called_by p c x arguments found.scope found.meaning

unfoldable pub call : Parts → Context → Ident → List ExprTree → Expansion Operand
call p c x arguments = called_found p c x arguments (find x.name c.scope)

-- the port of an interface: an input's can be read
abbrev pub kind_port : Ident → Ident → ℕ → List ℕ → Option Kind → Expansion Operand
kind_port x port k name (Some (kind.Input w s pins)) = if bytes_eq name port.name then pure (Of (core.Input k)) else refuse_name S4 port
kind_port x port k name _ = refuse_name S6 x

abbrev pub object_port : Ident → Ident → ℕ → List ℕ → Expansion Operand
object_port x port k name = kinds >>= (λ ks. kind_port x port k name (slice_get ks k))

abbrev pub port_by : Ident → Ident → Meaning → Expansion Operand
port_by x port (an_interface k name) = object_port x port k name
port_by x port _ = refuse_name S6 x

abbrev pub port_found : Ident → Ident → Option Found → Expansion Operand
port_found x port None = refuse_name S4 x
port_found x port (Some found) = port_by x port found.meaning

unfoldable pub port_value : Context → Ident → Ident → Expansion Operand
port_value c x port = port_found x port (find x.name c.scope)

-- whether a node is a macro call, which L4 counts: also a macro expression that is named without brackets
abbrev pub is_macro_expression : Meaning → Bool
is_macro_expression (an_expression parameters body) = true
is_macro_expression _ = false

abbrev pub is_macro : Option Found → Bool
is_macro None = false
is_macro (Some found) = is_macro_expression found.meaning

abbrev pub is_call_layer : Scope → Layer → Bool
is_call_layer scope (ExprTree-F.Call x arguments) = true
is_call_layer scope (ExprTree-F.ExprTree::Name x) = is_macro (find x.name scope)
is_call_layer scope _ = false

abbrev pub is_call : Scope → ExprTree → Bool
is_call scope x = is_call_layer scope (out-ExprTree x)

-- ---- elements, words and bits

-- how many elements or words an object has
abbrev pub kind_length : Option Kind → ℕ
kind_length (Some (kind.Array w s n init)) = n
kind_length (Some (kind.Ram w s n init)) = n
kind_length (Some (kind.Rom w s n init)) = n
kind_length _ = 0

-- an index is unsigned and just wide enough for all n, or a constant from 0 to n - 1; else S15
abbrev pub index_by : List Kind → ℕ → Place → Operand → Expansion Expression
index_by ks n place (Whole v) = do
  unless_broken (not (int_le (pos 0) v && int_lt v (pos n))) S15 place Nothing
  pure (Constant (record { width = index_width n; signed = false; bits = unsigned_abs v }))
index_by ks n place (Of x) = do
  unless_broken (not (typed.width_of ks x == index_width n) || sign_of ks x) S15 place Nothing
  pure x

unfoldable pub index : ℕ → ExprTree → Operand → Expansion Expression
index k at i = kinds >>= (λ ks. index_by ks (kind_length (slice_get ks k)) (place_of at) i)

-- an element of an array, or a word of a RAM or ROM
abbrev pub is_array : Option Kind → Bool
is_array (Some (kind.Array w s n init)) = true
is_array _ = false

abbrev pub memory_part : ℕ → Option Kind → Expression → Expression
memory_part k found i = if is_array found then Element k i else Word k i

abbrev pub word_of : ExprTree → ℕ → Operand → Expansion Operand
word_of at k i = do
  x ← index k at i
  ks ← kinds
  pure (Of (memory_part k (slice_get ks k) x))

-- one bit of a value, by a constant
abbrev pub bit_of : Place → ExprTree → Operand → Operand → Expansion Operand
bit_of place at v i = do
  n ← needs_constant (place_of at) i
  ks ← kinds
  judged place (cut ks v n n)

abbrev pub index_of : Place → ExprTree → Shown → Operand → Expansion Operand
index_of place at (a_value v) i = bit_of place at v i
index_of place at (a_memory k) i = word_of at k i

abbrev pub is_memory : Option Kind → Bool
is_memory (Some (kind.Array w s n init)) = true
is_memory (Some (kind.Ram w s n init)) = true
is_memory (Some (kind.Rom w s n init)) = true
is_memory _ = false

-- an object before an index
abbrev pub object_shown : Ident → ℕ → Expansion Shown
object_shown x k = kinds >>= (λ ks. if is_memory (slice_get ks k) then pure (a_memory k) else a_value <$> object_value x k)

-- a name before an index, which may be that of an array, RAM or ROM, also by a parameter
abbrev pub shown_by : Parts → Context → Ident → Scope → Meaning → Expansion Shown
shown_by p c x scope (an_object k) = object_shown x k
shown_by p c x scope (an_argument argument call) = p.before_index (within call c) argument
shown_by p c x scope meaning = a_value <$> value_by p c x scope meaning

abbrev pub shown_found : Parts → Context → Ident → Option Found → Expansion Shown
shown_found p c x None = refuse_name S4 x
shown_found p c x (Some found) = shown_by p c x found.scope found.meaning

unfoldable pub name_shown : Parts → Context → Ident → Expansion Shown
name_shown p c x = shown_found p c x (find x.name c.scope)

-- ---- operators

abbrev pub unary_of : UnaryOp → UnOp
unary_of unary_op.Not = un.IsZero
unary_of unary_op.Complement = un.Not
unary_of unary_op.Negate = un.Neg

abbrev pub binary_of : BinaryOp → BinOp
binary_of binary_op.Take = bin.Take
binary_of binary_op.Drop = bin.Drop
binary_of binary_op.Multiply = bin.Mul
binary_of binary_op.Divide = bin.Div
binary_of binary_op.Remainder = bin.Rem
binary_of binary_op.Add = bin.Add
binary_of binary_op.Subtract = bin.Sub
binary_of binary_op.Concat = bin.Concat
binary_of binary_op.ShiftLeft = bin.Shl
binary_of binary_op.ShiftRight = bin.Shr
binary_of binary_op.Less = bin.Lt
binary_of binary_op.LessEqual = bin.Le
binary_of binary_op.Greater = bin.Gt
binary_of binary_op.GreaterEqual = bin.Ge
binary_of binary_op.Equal = bin.Eq
binary_of binary_op.NotEqual = bin.Ne
binary_of binary_op.BitAnd = bin.And
binary_of binary_op.BitXor = bin.Xor
binary_of binary_op.BitOr = bin.Or
binary_of binary_op.Both = bin.Both
binary_of binary_op.Either = bin.Either

-- the width of an operand; S12 where it has none
abbrev pub measured : Place → Operand → Expansion Operand
measured place (Whole v) = refuse S12 place Nothing
measured place (Of x) = kinds >>= (λ ks. pure (Whole (pos (typed.width_of ks x))))

-- ---- one clause for each form

abbrev pub expression_layer : Parts → Context → Layer → Expansion Operand
expression_layer p c (ExprTree-F.ExprTree::Number place value) = pure (Whole (pos value))
expression_layer p c (ExprTree-F.ExprTree::Name x) = name_value p c x
expression_layer p c (ExprTree-F.Call x arguments) = call p c x arguments
expression_layer p c (ExprTree-F.Port x port) = port_value c x port
expression_layer p c (ExprTree-F.Width place of) = p.expression c of >>= measured place
expression_layer p c (ExprTree-F.Select place condition a b) = constant p c condition >>= (λ v. p.expression c (if holds v then a else b))
expression_layer p c (ExprTree-F.Index place of at) = do
  shown ← p.before_index c of
  i ← p.expression c at
  index_of place at shown i
expression_layer p c (ExprTree-F.Bits place of high low) = do
  v ← p.expression c of
  h ← constant p c high
  l ← constant p c low
  ks ← kinds
  judged place (cut ks v h l)
expression_layer p c (ExprTree-F.Unary place op of) = p.expression c of >>= (λ v. judged place (unary (unary_of op) v))
expression_layer p c (ExprTree-F.Cast place to of) = do
  t ← type_of p c to
  v ← p.expression c of
  ks ← kinds
  judged place (cast ks t.width t.signed v)
expression_layer p c (ExprTree-F.Binary place left op right) = do
  a ← p.expression c left
  b ← p.expression c right
  ks ← kinds
  judged place (binary ks (binary_of op) a b)
expression_layer p c (ExprTree-F.Choice place condition a b) = do
  by ← p.expression c condition
  x ← p.expression c a
  y ← p.expression c b
  ks ← kinds
  judged place (choose ks by x y)

unfoldable pub expression_form : Parts → Context → ExprTree → Expansion Operand
expression_form p c x = expression_layer p c (out-ExprTree x)

abbrev pub before_index_layer : Parts → Context → Layer → Expansion Shown
before_index_layer p c (ExprTree-F.ExprTree::Name x) = name_shown p c x
before_index_layer p c other = a_value <$> expression_layer p c other

unfoldable pub before_index_form : Parts → Context → ExprTree → Expansion Shown
before_index_form p c x = before_index_layer p c (out-ExprTree x)
