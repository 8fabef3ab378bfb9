-- Declarations: each declared name makes one object (this project's profile of Handel-C).
use Rattle.std.specs.Prelude.{ℕ, ◌*◌, not, ◌==◌, if◌then◌else◌, nat_lt, List, [], ◌∷◌, length, map, reverse, codes, Option, Some, None, unwrap_or, pos, int_le, unsigned_abs}
use Rattle.std.specs.Str.{bytes_eq}
use Rattle.hc_tree.specs.declared.place.Place.{Place}
use Rattle.hc_tree.specs.declared.name.Ident.{Ident}
use Rattle.hc_tree.specs.declared.refusal.Rule.TheVariants.{S5, S6, S7, S13, S24, L9}
use Rattle.hc_tree.specs.declared.refusal.Detail.TheVariants.{Nothing, Pair}
use Rattle.hc_tree.specs.declared.expr.ExprTree.{ExprTree}
use Rattle.hc_tree.specs.declared.decl.Decl.{Decl}
use Rattle.hc_tree.specs.declared.decl.Decl.TheVariants as d
use Rattle.hc_tree.specs.declared.decl.MemoryKind.{MemoryKind}
use Rattle.hc_tree.specs.declared.decl.MemoryKind.TheVariants as memory
use Rattle.hc_tree.specs.declared.decl.BoxedType.{BoxedType}
use Rattle.hc_tree.specs.declared.decl.BoxedType.TheVariants as boxed
use Rattle.hc_tree.specs.declared.expr.«Type».{«Type»}
use Rattle.hc_tree.specs.declared.decl.Var.{Var}
use Rattle.hc_tree.specs.declared.decl.Var.TheVariants as var
use Rattle.hc_tree.specs.declared.decl.Mem.{Mem}
use Rattle.hc_tree.specs.declared.decl.With.{With}
use Rattle.hc_tree.specs.declared.decl.Spec.{Spec}
use Rattle.hc_tree.specs.declared.decl.SpecValue.{SpecValue}
use Rattle.hc_tree.specs.declared.decl.SpecValue.TheVariants as value
use Rattle.hc_tree.specs.declared.item.Interface.{Interface}
use Rattle.hc_tree.specs.declared.item.Interface.TheVariants as interface
use Rattle.hc_num.specs.Number.{Number}
use Rattle.hc_core.specs.Program.{Expression, Constant}
use Rattle.hc_core.specs.Typed.{width_of, sign_of}
use Rattle.hc_core.specs.declared.object.Kind.{Kind}
use Rattle.hc_core.specs.declared.object.Kind.TheVariants as kind
use Rattle.hc_width.specs.Operand.{Operand, Whole, Of}
use Rattle.hc_width.specs.Judged.{Gives, equal_widths, equal_signs}
use Rattle.hc_width.specs.Unary.{fitted}
use Rattle.hc_scope.specs.Scope.{Meaning, an_object, an_interface, declared, is_declared}
use Rattle.hc_scope.specs.Expansion.{Expansion, ◌>>=◌, ◌>>◌, ◌<$>◌, pure, refuse_name, unless_broken, kinds, judged, each, make}
use Rattle.hc_scope.specs.Parts.{Context, TypeOf, Parts, DeclaredName, a_register, an_array, a_ram, a_rom, a_signal, a_channel, place_of}
use Rattle.hc_scope.specs.Expression.{constant, type_of}
use Rattle.hc_scope.specs.Written.{written}

-- ---- names

-- a name that its scope has already breaks S5
abbrev pub fresh : Context → Ident → Expansion (Unit {0})
fresh c x = if is_declared x.name c.scope then refuse_name S5 x else pure tt

-- the context behind a declaration
abbrev pub declaring : Ident → Meaning → Context → Context
declaring x meaning c = record { scope = declared x.name meaning c.scope; calls = c.calls }

-- ---- values

-- a constant that takes a type; S11 where it doesn't fit
unfoldable pub initial : Parts → Context → TypeOf → ExprTree → Expansion Number
initial p c t x = constant p c x >>= (λ v. judged (place_of x) (fitted t.width t.signed v))

abbrev pub initial_or_zero : Parts → Context → TypeOf → Option ExprTree → Expansion Number
initial_or_zero p c t None = pure (record { width = t.width; signed = t.signed; bits = 0 })
initial_or_zero p c t (Some x) = initial p c t x

abbrev pub initial_list : Parts → Context → TypeOf → Option (List ExprTree) → Expansion (List Number)
initial_list p c t None = pure []
initial_list p c t (Some values) = each (initial p c t) values

-- a number of elements or words: a constant of 1 or more, else S13
unfoldable pub length_of : Parts → Context → ExprTree → Expansion ℕ
length_of p c x = do
  v ← constant p c x
  unless_broken (not (int_le (pos 1) v)) S13 (place_of x) Nothing
  pure (unsigned_abs v)

-- A value takes the type of what it is for: S11 where a constant doesn't fit, S9 and S10 where the types differ, with the
-- width that is wanted first.
unfoldable pub taken : TypeOf → Place → Operand → Expansion Expression
taken t place (Whole v) = Constant <$> judged place (fitted t.width t.signed v)
taken t place (Of x) = kinds >>= (λ ks. judged place (equal_widths t.width (width_of ks x) (equal_signs t.signed (sign_of ks x) (Gives x))))

-- ---- declared names

-- the length and the first values of an array, RAM or ROM; S7 where there are more values than elements
pub record Elements : Type 0 where
  pub count : ℕ
  pub values : List Number

unfoldable pub elements : Parts → Context → TypeOf → Mem → Expansion Elements
elements p c t m = do
  n ← length_of p c m.length
  values ← initial_list p c t m.init
  unless_broken (nat_lt n (length values)) S7 m.name.place (Pair (length values) n)
  pure (record { count = n; values = values })

-- a RAM or ROM has at most 65,536 bits
abbrev pub few_bits : Ident → ℕ → ℕ → Expansion (Unit {0})
few_bits x n w = if nat_lt 65536 (n * w) then refuse_name S24 x else pure tt

abbrev pub few_words : Ident → ℕ → Elements → Expansion Elements
few_words x w all = few_bits x all.count w >> pure all

-- the length and the first values of a RAM or ROM
unfoldable pub words : Parts → Context → TypeOf → Mem → Expansion Elements
words p c t m = elements p c t m >>= few_words m.name t.width

-- the kind of the object of a name, by what is written of it
abbrev pub kind_of : Parts → Context → TypeOf → DeclaredName → Expansion Kind
kind_of p c t (a_register x init) = kind.Reg t.width t.signed <$> initial_or_zero p c t init
kind_of p c t (an_array m) = (λ all. kind.Array t.width t.signed all.count all.values) <$> elements p c t m
kind_of p c t (a_ram m) = (λ all. kind.Ram t.width t.signed all.count all.values) <$> words p c t m
kind_of p c t (a_rom m) = (λ all. kind.Rom t.width t.signed all.count all.values) <$> words p c t m
kind_of p c t (a_signal g) = kind.Signal t.width t.signed <$> initial_or_zero p c t g.unset
kind_of p c t (a_channel x) = pure (kind.Chan t.width t.signed 0)

-- an array of more than 4,096 elements breaks L9
abbrev pub few_elements : Ident → Kind → Expansion (Unit {0})
few_elements x (kind.Array w s n init) = unless_broken (nat_lt 4096 n) L9 x.place Nothing
few_elements x _ = pure tt

-- an object is made, and its name is declared
abbrev pub object : Context → Ident → Kind → Expansion Context
object c x kind = make x kind >>= (λ k. few_elements x kind >> pure (declaring x (an_object k) c))

-- what a name declares that its scope hasn't yet
unfoldable pub object_form : Parts → Context → Ident → TypeOf → DeclaredName → Expansion Context
object_form p c x t declared_name = kind_of p c t declared_name >>= object c x

unfoldable pub name_form : Parts → Context → Ident → TypeOf → DeclaredName → Expansion Context
name_form p c x t declared_name = fresh c x >> object_form p c x t declared_name

-- names one after another
abbrev pub names : Parts → Context → TypeOf → List DeclaredName → Expansion Context
names p c t [] = pure c
names p c t (x ∷ rest) = p.name c t x >>= (λ inner. names p inner t rest)

-- ---- declarations

abbrev pub var_name : Var → DeclaredName
var_name (var.Register x init) = a_register x init
var_name (var.Array m) = an_array m

abbrev pub mem_name : MemoryKind → Mem → DeclaredName
mem_name memory.Ram m = a_ram m
mem_name memory.Rom m = a_rom m

abbrev pub unboxed : BoxedType → «Type»
unboxed (boxed.Bare t) = t
unboxed (boxed.InAngles t) = t

-- the type is expanded once, and then the names
abbrev pub typed_names : Parts → Context → «Type» → List DeclaredName → Expansion Context
typed_names p c of list = type_of p c of >>= (λ t. names p c t list)

unfoldable pub declaration : Parts → Context → Decl → Expansion Context
declaration p c (d.Vars place is_static of vars with_list) = typed_names p c of (map var_name vars)
declaration p c (d.Memories place is_static which of memories with_list) = typed_names p c of (map (mem_name which) memories)
declaration p c (d.Signals place of signals with_list) = typed_names p c (unboxed of) (map a_signal signals)
declaration p c (d.Chans place of channels with_list) = typed_names p c (unboxed of) (map a_channel channels)

-- ---- interfaces

-- A `data` entry: a list of texts, one for each bit, the highest first. A second one breaks S5, another value S6, and
-- another length S7.
abbrev pub pins_listed : Ident → ℕ → List (List ℕ) → Expansion (List (List ℕ))
pins_listed x w texts = unless_broken (not (length texts == w)) S7 x.place (Pair (length texts) w) >> pure (reverse texts)

abbrev pub pins_by : Ident → ℕ → SpecValue → Expansion (List (List ℕ))
pins_by x w (value.Expr v) = refuse_name S6 x
pins_by x w (value.Text text) = refuse_name S6 x
pins_by x w (value.Texts texts) = pins_listed x w texts

abbrev pub data_entry : ℕ → Option (List (List ℕ)) → Spec → Expansion (Option (List (List ℕ)))
data_entry w (Some pins) spec = refuse_name S5 spec.name
data_entry w None spec = Some <$> pins_by spec.name w spec.value

abbrev pub data_entries : ℕ → Option (List (List ℕ)) → List Spec → Expansion (List (List ℕ))
data_entries w pins [] = pure (unwrap_or pins [])
data_entries w pins (spec ∷ rest) =
    if bytes_eq spec.name.name (codes "data") then data_entry w pins spec >>= (λ more. data_entries w more rest) else data_entries w pins rest

-- the pins of a port, that of the lowest bit first; none without an entry
abbrev pub pins_of : ℕ → Option With → Expansion (List (List ℕ))
pins_of w None = pure []
pins_of w (Some with_list) = data_entries w None with_list.specs

-- an input or output is made, and its name is declared
abbrev pub port_object : Context → Ident → Ident → Kind → Expansion Context
port_object c x port kind = make x kind >>= (λ k. pure (declaring x (an_interface k port.name) c))

-- an input of this type, whose name its scope hasn't yet
unfoldable pub input : Context → TypeOf → Ident → Ident → Option With → Expansion Context
input c t port x with_list = pins_of t.width with_list >>= (λ pins. port_object c x port (kind.Input t.width t.signed pins))

abbrev pub fresh_input : Context → TypeOf → Ident → Ident → Option With → Expansion Context
fresh_input c t port x with_list = fresh c x >> input c t port x with_list

abbrev pub bus_in : Parts → Context → «Type» → Ident → Ident → Option With → Expansion Context
bus_in p c of port x with_list = type_of p c of >>= (λ t. fresh_input c t port x with_list)

-- an output of this type that shows a value
unfoldable pub output : Context → TypeOf → Ident → Ident → Option With → Place → Operand → Expansion Context
output c t x port with_list place shown = do
  e ← taken t place shown
  pins ← pins_of t.width with_list
  port_object c x port (kind.Output t.width t.signed pins (written e))

-- an output whose name its scope hasn't yet
unfoldable pub bus_out : Parts → Context → Ident → «Type» → Ident → ExprTree → Option With → Expansion Context
bus_out p c x of port v with_list = do
  t ← type_of p c of
  shown ← p.expression c v
  output c t x port with_list (place_of v) shown

unfoldable pub interface_form : Parts → Context → Interface → Expansion Context
interface_form p c (interface.BusIn place of port x with_list) = bus_in p c of port x with_list
interface_form p c (interface.BusOut place x of port v with_list) = fresh c x >> bus_out p c x of port v with_list
