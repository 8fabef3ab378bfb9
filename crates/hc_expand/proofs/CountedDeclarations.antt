-- Declarations pay their parts by the nodes that they visit.
use Rattle.std.proofs.Common.{◌≡◌, ℕ, ◌+◌, List, [], ◌∷◌, length, map, Option, Some, None, codes, ap, arith}
use Rattle.std.specs.Str.{bytes_eq}
use Rattle.hc_tree.specs.declared.place.Place.{Place}
use Rattle.hc_tree.specs.declared.name.Ident.{Ident}
use Rattle.hc_tree.specs.declared.decl.Decl.{Decl}
use Rattle.hc_tree.specs.declared.decl.Decl.TheVariants as d
use Rattle.hc_tree.specs.declared.decl.Mem.{Mem}
use Rattle.hc_tree.specs.declared.decl.With.{With}
use Rattle.hc_tree.specs.declared.decl.Spec.{Spec}
use Rattle.hc_tree.specs.declared.decl.SpecValue.{SpecValue}
use Rattle.hc_tree.specs.declared.decl.SpecValue.TheVariants as value
use Rattle.hc_tree.specs.declared.expr.ExprTree.{ExprTree}
use Rattle.hc_tree.specs.declared.expr.«Type».{«Type»}
use Rattle.hc_tree.specs.declared.item.Interface.{Interface}
use Rattle.hc_tree.specs.declared.item.Interface.TheVariants as interface
use Rattle.hc_core.specs.Program.{Constant}
use Rattle.hc_core.specs.Parts.{expression_parts, kind_parts}
use Rattle.hc_core.specs.Read.{expression}
use Rattle.hc_core.specs.Typed.{width_of, sign_of}
use Rattle.hc_core.specs.declared.object.Kind.{Kind}
use Rattle.hc_core.specs.declared.object.Kind.TheVariants as kind
use Rattle.hc_width.specs.Operand.{Operand, Whole, Of}
use Rattle.hc_width.specs.Judged.{Gives, equal_signs}
use Rattle.hc_width.specs.Unary.{fitted}
use Rattle.hc_width.proofs.Steps.{widths_give, signs_give}
use Rattle.hc_scope.specs.Written.{written}
use Rattle.hc_scope.specs.Parts.{Context, TypeOf, Parts, DeclaredName, a_register, an_array, a_ram, a_rom, a_signal, a_channel, place_of}
use Rattle.hc_scope.specs.Declaration.{fresh, initial, initial_or_zero, initial_list, length_of, taken, Elements, elements, few_bits, few_words, words, kind_of, few_elements, object, object_form, name_form, names, typed_names, unboxed, var_name, mem_name, declaration, pins_listed, pins_by, data_entry, data_entries, pins_of, port_object, input, fresh_input, bus_in, output, bus_out, interface_form}
use Rattle.hc_expand.proofs.WrittenStatement.{read_expression}
use Rattle.hc_expand.proofs.CountedSteps.{Counts, none, after, after_few, maps, with_more, smaller, gives, refuses, knows, judges, unless_few, either, makes, each_few}
use Rattle.hc_expand.proofs.CountedWidths.{operand_parts}
use Rattle.hc_expand.proofs.CountedParts.{one, Paid}
use Rattle.hc_expand.proofs.CountedExpressions.{constant_paid, type_paid}

-- ---- names

pub fresh_few : (c : Context) (x : Ident) → Counts 0 none (fresh c x)
fresh_few c x = either _ refuses (gives (omega arith))

-- a value that takes a type: one part more where it is a constant
pub taken_few : (t : TypeOf) (place : Place) (v : Operand) → Counts (operand_parts v + 1) expression_parts (taken t place v)
unfolding taken
taken_few t place (Whole v) = maps 0 Constant (judges {size = none} place (fitted t.width t.signed v) (λ n is. omega arith)) (omega arith) (λ n. omega arith)
taken_few t place (Of x) = knows (λ ks. judges place _ (λ e is. (
    let w = widths_give t.width (width_of ks x) (equal_signs t.signed (sign_of ks x) (Gives x)) e is in
    let s = signs_give t.signed (sign_of ks x) (Gives x) e w.1 in
    let same : x ≡ e = cc in
    let parts = ap expression_parts same in
    omega arith)))

few_bits_few : (x : Ident) (n w : ℕ) → Counts 0 none (few_bits x n w)
few_bits_few x n w = either _ refuses (gives (omega arith))

few_words_few : (x : Ident) (w : ℕ) (all : Elements) → Counts 0 none (few_words x w all)
few_words_few x w all = after (few_bits_few x all.count w) (λ u. gives (omega arith))

few_elements_few : (x : Ident) (k : Kind) → Counts 0 none (few_elements x k)
few_elements_few x (kind.Array w s n init) = unless_few _ _ _ _
few_elements_few x _ = gives (omega arith)

pub object_few : (c : Context) (x : Ident) (k : Kind) → Counts (kind_parts k) none (object c x k)
object_few c x k = after_few (kind_parts k) (makes x k) (omega arith) (λ n. after (few_elements_few x k) (λ u. gives (omega arith)))

-- ---- interfaces

pins_listed_few : (x : Ident) (w : ℕ) (texts : List (List ℕ)) → Counts 0 none (pins_listed x w texts)
pins_listed_few x w texts = after (unless_few _ _ _ _) (λ u. gives (omega arith))

pins_by_few : (x : Ident) (w : ℕ) (v : SpecValue) → Counts 0 none (pins_by x w v)
pins_by_few x w (value.Expr v) = refuses
pins_by_few x w (value.Text text) = refuses
pins_by_few x w (value.Texts texts) = pins_listed_few x w texts

data_entry_few : (w : ℕ) (pins : Option (List (List ℕ))) (spec : Spec) → Counts 0 none (data_entry w pins spec)
data_entry_few w (Some pins) spec = refuses
data_entry_few w None spec = maps 0 Some (pins_by_few spec.name w spec.value) (omega arith) (λ pins. omega arith)

data_entries_few : (w : ℕ) (pins : Option (List (List ℕ))) (specs : List Spec) → Counts 0 none (data_entries w pins specs)
data_entries_few w pins [] = gives (omega arith)
data_entries_few w pins (spec ∷ rest) =
    either (bytes_eq spec.name.name (codes "data")) (after (data_entry_few w pins spec) (λ more. data_entries_few w more rest)) (data_entries_few w pins rest)

pins_few : (w : ℕ) (with_list : Option With) → Counts 0 none (pins_of w with_list)
pins_few w None = gives (omega arith)
pins_few w (Some with_list) = data_entries_few w None with_list.specs

port_few : (c : Context) (x port : Ident) (k : Kind) → Counts (kind_parts k) none (port_object c x port k)
port_few c x port k = after_few (kind_parts k) (makes x k) (omega arith) (λ n. gives (omega arith))

input_few : (c : Context) (t : TypeOf) (port x : Ident) (with_list : Option With) → Counts 1 none (input c t port x with_list)
unfolding input
input_few c t port x with_list = after (pins_few t.width with_list) (λ pins. port_few c x port (kind.Input t.width t.signed pins))

output_few : (c : Context) (t : TypeOf) (x port : Ident) (with_list : Option With) (place : Place) (shown : Operand)
    → Counts (operand_parts shown + 2) none (output c t x port with_list place shown)
unfolding output
output_few c t x port with_list place shown =
    after_few (operand_parts shown + 1) (taken_few t place shown) (omega arith) (λ e. after (pins_few t.width with_list) (λ pins.
    with_more (let same = ap expression_parts (read_expression e) in omega arith) (port_few c x port (kind.Output t.width t.signed pins (written e)))))

-- ---- forms

module _ (p : Parts) (paid : Paid p) where
  pub initial_paid : (c : Context) (t : TypeOf) (x : ExprTree) → Counts 0 one (initial p c t x)
  unfolding initial
  initial_paid c t x = after (constant_paid p paid c x) (λ v. judges (place_of x) _ (λ n is. omega arith))

  initial_or_zero_paid : (c : Context) (t : TypeOf) (x : Option ExprTree) → Counts 0 none (initial_or_zero p c t x)
  initial_or_zero_paid c t None = gives (omega arith)
  initial_or_zero_paid c t (Some x) = smaller (λ n. omega arith) (initial_paid c t x)

  initial_list_paid : (c : Context) (t : TypeOf) (values : Option (List ExprTree)) → Counts 0 none (initial_list p c t values)
  initial_list_paid c t None = gives (omega arith)
  initial_list_paid c t (Some values) = each_few {size = one} {sizes = none} (omega arith) (λ n more. omega arith) (λ x. initial_paid c t x) values

  length_paid : (c : Context) (x : ExprTree) → Counts 0 none (length_of p c x)
  unfolding length_of
  length_paid c x = after (constant_paid p paid c x) (λ v. after (unless_few _ _ _ _) (λ u. gives (omega arith)))

  elements_paid : (c : Context) (t : TypeOf) (m : Mem) → Counts 0 none (elements p c t m)
  unfolding elements
  elements_paid c t m = after (length_paid c m.length) (λ n. after (initial_list_paid c t m.init) (λ values. after (unless_few _ _ _ _) (λ u. gives (omega arith))))

  words_paid : (c : Context) (t : TypeOf) (m : Mem) → Counts 0 none (words p c t m)
  unfolding words
  words_paid c t m = after (elements_paid c t m) (λ all. few_words_few m.name t.width all)

  kind_paid : (c : Context) (t : TypeOf) (x : DeclaredName) → Counts 1 kind_parts (kind_of p c t x)
  kind_paid c t (a_register x init) = maps 0 _ (initial_or_zero_paid c t init) (omega arith) (λ n. omega arith)
  kind_paid c t (an_array m) = maps 0 _ (elements_paid c t m) (omega arith) (λ all. omega arith)
  kind_paid c t (a_ram m) = maps 0 _ (words_paid c t m) (omega arith) (λ all. omega arith)
  kind_paid c t (a_rom m) = maps 0 _ (words_paid c t m) (omega arith) (λ all. omega arith)
  kind_paid c t (a_signal g) = maps 0 _ (initial_or_zero_paid c t g.unset) (omega arith) (λ n. omega arith)
  kind_paid c t (a_channel x) = gives (omega arith)

  object_paid : (c : Context) (x : Ident) (t : TypeOf) (name : DeclaredName) → Counts 1 none (object_form p c x t name)
  unfolding object_form
  object_paid c x t name = after_few 1 (kind_paid c t name) (omega arith) (λ k. with_more (omega arith) (object_few c x k))

  pub name_paid : (c : Context) (x : Ident) (t : TypeOf) (name : DeclaredName) → Counts 1 none (name_form p c x t name)
  unfolding name_form
  name_paid c x t name = after (fresh_few c x) (λ u. with_more (omega arith) (object_paid c x t name))

  names_paid : (c : Context) (t : TypeOf) (list : List DeclaredName) → Counts 0 none (names p c t list)
  names_paid c t [] = gives (omega arith)
  names_paid c t (x ∷ rest) = after (paid.name c t x) (λ inner. names_paid inner t rest)

  typed_names_paid : (c : Context) (of : «Type») (list : List DeclaredName) → Counts 0 none (typed_names p c of list)
  typed_names_paid c of list = after (type_paid p paid c of) (λ t. names_paid c t list)

  pub declaration_paid : (c : Context) (x : Decl) → Counts 0 none (declaration p c x)
  unfolding declaration
  declaration_paid c (d.Vars place is_static of vars with_list) = typed_names_paid c of (map var_name vars)
  declaration_paid c (d.Memories place is_static which of memories with_list) = typed_names_paid c of (map (mem_name which) memories)
  declaration_paid c (d.Signals place of signals with_list) = typed_names_paid c (unboxed of) (map a_signal signals)
  declaration_paid c (d.Chans place of channels with_list) = typed_names_paid c (unboxed of) (map a_channel channels)

  fresh_input_paid : (c : Context) (t : TypeOf) (port x : Ident) (with_list : Option With) → Counts 1 none (fresh_input c t port x with_list)
  fresh_input_paid c t port x with_list = after (fresh_few c x) (λ u. with_more (omega arith) (input_few c t port x with_list))

  bus_in_paid : (c : Context) (of : «Type») (port x : Ident) (with_list : Option With) → Counts 1 none (bus_in p c of port x with_list)
  bus_in_paid c of port x with_list = after (type_paid p paid c of) (λ t. with_more (omega arith) (fresh_input_paid c t port x with_list))

  bus_out_paid : (c : Context) (x : Ident) (of : «Type») (port : Ident) (v : ExprTree) (with_list : Option With) → Counts 1 none (bus_out p c x of port v with_list)
  unfolding bus_out
  bus_out_paid c x of port v with_list = after (type_paid p paid c of) (λ t. after (paid.expression c v) (λ shown. with_more (omega arith) (output_few c t x port with_list (place_of v) shown)))

  pub interface_paid : (c : Context) (i : Interface) → Counts 1 none (interface_form p c i)
  unfolding interface_form
  interface_paid c (interface.BusIn place of port x with_list) = bus_in_paid c of port x with_list
  interface_paid c (interface.BusOut place x of port v with_list) = after (fresh_few c x) (λ u. with_more (omega arith) (bus_out_paid c x of port v with_list))
