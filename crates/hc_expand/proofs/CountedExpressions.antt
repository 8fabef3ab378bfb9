-- Expressions pay their parts by the nodes that they visit.
use Rattle.std.proofs.Common.{ℕ, ◌+◌, ◌≤◌, Bool, true, false, if◌then◌else◌, ℤ, pos, List, [], ◌∷◌, Option, Some, None, slice_get, arith}
use Rattle.std.specs.Str.{bytes_eq}
use Rattle.hc_tree.specs.declared.place.Place.{Place}
use Rattle.hc_tree.specs.declared.name.Ident.{Ident}
use Rattle.hc_tree.specs.declared.expr.ExprTree.{ExprTree, out-ExprTree}
use Rattle.hc_tree.specs.declared.expr.ExprTree.TheOpen.{ExprTree-F, Type-F}
use Rattle.hc_tree.specs.declared.expr.«Type».{«Type», out-Type}
use Rattle.hc_tree.specs.declared.expr.Size.{Size}
use Rattle.hc_core.specs.Program.{Expression, Element, Word}
use Rattle.hc_core.specs.Typed as typed
use Rattle.hc_core.specs.Parts.{expression_parts}
use Rattle.hc_core.specs.declared.object.Kind.{Kind}
use Rattle.hc_core.specs.declared.object.Kind.TheVariants as kind
use Rattle.hc_width.specs.Whole.{holds}
use Rattle.hc_width.specs.Operand.{Operand, Whole, Of}
use Rattle.hc_width.specs.Judged.{Judged}
use Rattle.hc_scope.specs.Expansion.{judged}
use Rattle.hc_scope.specs.Scope.{Meaning, an_object, an_interface, a_number, an_expression, a_procedure, an_argument, Scope, Found, find, Layer}
use Rattle.hc_scope.specs.Parts.{Context, within, Shown, a_value, a_memory, Parts, place_of}
use Rattle.hc_scope.specs.Expression.{needs_constant, constant, width_by, width_of, width_in_range, type_layer, type_of, size_expression, kind_value, object_value, differ_from, call_context, call_expression, value_by, value_found, name_value, called_by, called_found, call, kind_port, port_by, port_found, port_value, kind_length, index_by, index, is_array, is_memory, unary_of, binary_of, memory_part, word_of, bit_of, index_of, object_shown, shown_by, shown_found, name_shown, measured, expression_layer, expression_form, before_index_layer, before_index_form}
use Rattle.hc_expand.proofs.CountedSteps.{Counts, none, after, after_few, maps, with_more, gives, refuses, knows, judges, unless_few, either}
use Rattle.hc_expand.proofs.CountedParts.{value_size, one, shown_parts, Paid}
use Rattle.hc_expand.proofs.CountedWidths.{operand_parts, Few, unary_few, cast_few, binary_few, cut_few, choose_few}

-- ---- names

pub constant_few : (n : ℕ) (place : Place) (v : Operand) → 1 ≤ n → Counts n one (needs_constant place v)
constant_few n place (Whole v) le = gives le
constant_few n place (Of x) le = refuses

width_by_few : (n : ℕ) (place : Place) (v : ℤ) → Counts n none (width_by place v)
width_by_few n place v = after (unless_few _ _ _ _) (λ u. gives (omega arith))

width_few : (n : ℕ) (place : Place) (v : Operand) → 1 ≤ n → Counts n none (width_of place v)
width_few n place v le = after_few n (constant_few n place v le) (omega arith) (λ w. width_by_few _ place w)

kind_value_few : (x : Ident) (k : ℕ) (found : Option Kind) → Counts 2 value_size (kind_value x k found)
kind_value_few x k (Some (kind.Reg w s init)) = gives (omega arith)
kind_value_few x k (Some (kind.Signal w s unset)) = gives (omega arith)
kind_value_few x k _ = refuses

object_value_few : (x : Ident) (k : ℕ) → Counts 2 value_size (object_value x k)
object_value_few x k = knows (λ ks. kind_value_few x k (slice_get ks k))

differ_few : (before names : List Ident) → Counts 0 none (differ_from before names)
differ_few before [] = gives (omega arith)
differ_few before (x ∷ rest) = either _ refuses (differ_few (x ∷ before) rest)

pub call_context_few : (c : Context) (x : Ident) (parameters : List Ident) (scope : Scope) (arguments : List ExprTree) → Counts 0 none (call_context c x parameters scope arguments)
unfolding call_context
call_context_few c x parameters scope arguments = after (differ_few [] parameters) (λ u. after (unless_few _ _ _ _) (λ v. gives (omega arith)))

kind_port_few : (x port : Ident) (k : ℕ) (name : List ℕ) (found : Option Kind) → Counts 2 value_size (kind_port x port k name found)
kind_port_few x port k name (Some (kind.Input w s pins)) = either (bytes_eq name port.name) (gives (omega arith)) refuses
kind_port_few x port k name _ = refuses

port_by_few : (x port : Ident) (meaning : Meaning) → Counts 2 value_size (port_by x port meaning)
port_by_few x port (an_interface k name) = knows (λ ks. kind_port_few x port k name (slice_get ks k))
port_by_few x port _ = refuses

port_found_few : (x port : Ident) (found : Option Found) → Counts 2 value_size (port_found x port found)
port_found_few x port None = refuses
port_found_few x port (Some found) = port_by_few x port found.meaning

port_few : (c : Context) (x port : Ident) → Counts 2 value_size (port_value c x port)
unfolding port_value
port_few c x port = port_found_few x port (find x.name c.scope)

-- ---- elements, words and bits

index_by_few : (ks : List Kind) (n : ℕ) (place : Place) (i : Operand) → Counts (operand_parts i + 1) expression_parts (index_by ks n place i)
index_by_few ks n place (Whole v) = after (unless_few _ _ _ _) (λ u. gives (omega arith))
index_by_few ks n place (Of x) = after (unless_few _ _ _ _) (λ u. gives (omega arith))

pub index_few : (k : ℕ) (at : ExprTree) (i : Operand) → Counts (operand_parts i + 1) expression_parts (index k at i)
unfolding index
index_few k at i = knows (λ ks. index_by_few ks (kind_length (slice_get ks k)) (place_of at) i)

memory_few : (b : Bool) (k : ℕ) (i : Expression) → expression_parts (if b then Element k i else Word k i) ≤ expression_parts i + 1
memory_few true k i = omega arith
memory_few false k i = omega arith

word_few : (at : ExprTree) (k : ℕ) (i : Operand) → Counts (operand_parts i + 3) value_size (word_of at k i)
word_few at k i = after_few (operand_parts i + 1) (index_few k at i) (omega arith) (λ x. knows (λ ks. gives {a = Of (memory_part k (slice_get ks k) x)} (let m = memory_few (is_array (slice_get ks k)) k x in omega arith)))

bit_few : (place : Place) (at : ExprTree) (v i : Operand) → Counts (operand_parts v + 2) value_size (bit_of place at v i)
bit_few place at v i = after_few 1 (constant_few 1 _ i (omega arith)) (omega arith) (λ n. knows (λ ks. judges place _ (λ r is. let f = cut_few ks v n n r is in omega arith)))

index_of_few : (place : Place) (at : ExprTree) (shown : Shown) (i : Operand) → Counts (shown_parts shown + operand_parts i + 3) value_size (index_of place at shown i)
index_of_few place at (a_value v) i = with_more (omega arith) (bit_few place at v i)
index_of_few place at (a_memory k) i = with_more (omega arith) (word_few at k i)

object_shown_few : (x : Ident) (k : ℕ) → Counts 2 shown_parts (object_shown x k)
object_shown_few x k = knows (λ ks. either (is_memory (slice_get ks k)) (gives {a = a_memory k} (omega arith)) (maps 2 a_value (object_value_few x k) (omega arith) (λ v. omega arith)))

measured_few : (n : ℕ) (place : Place) (v : Operand) → 1 ≤ n → Counts n value_size (measured place v)
measured_few n place (Whole v) le = refuses
measured_few n place (Of x) le = knows (λ ks. gives {a = Whole (pos (typed.width_of ks x))} (omega arith))

-- ---- forms

module _ (p : Parts) (paid : Paid p) where
  pub constant_paid : (c : Context) (x : ExprTree) → Counts 0 one (constant p c x)
  constant_paid c x = after (paid.expression c x) (λ v. constant_few _ _ v (omega arith))

  width_paid : (c : Context) (x : ExprTree) → Counts 0 none (width_in_range p c x)
  unfolding width_in_range
  width_paid c x = after (paid.expression c x) (λ v. width_few _ _ v (omega arith))

  type_layer_paid : (c : Context) (t : Type-F ExprTree Size «Type») → Counts 0 none (type_layer p c t)
  type_layer_paid c (Type-F.Unsigned place is_int size) = after (width_paid c (size_expression size)) (λ w. gives (omega arith))
  type_layer_paid c (Type-F.Int place is_signed size) = after (width_paid c (size_expression size)) (λ w. gives (omega arith))
  type_layer_paid c (Type-F.Signed place size) = after (width_paid c (size_expression size)) (λ w. gives (omega arith))

  pub type_paid : (c : Context) (t : «Type») → Counts 0 none (type_of p c t)
  type_paid c t = type_layer_paid c (out-Type t)

  call_paid : (c : Context) (x : Ident) (parameters : List Ident) (body : ExprTree) (scope : Scope) (arguments : List ExprTree)
      → Counts 2 value_size (call_expression p c x parameters body scope arguments)
  unfolding call_expression
  call_paid c x parameters body scope arguments =
      after (call_context_few c x parameters scope arguments) (λ inner. with_more (omega arith) (paid.expression inner body))

  value_by_paid : (c : Context) (x : Ident) (scope : Scope) (meaning : Meaning) → Counts 2 value_size (value_by p c x scope meaning)
  value_by_paid c x scope (an_object k) = object_value_few x k
  value_by_paid c x scope (an_interface k port) = refuses
  value_by_paid c x scope (a_number v) = gives (omega arith)
  value_by_paid c x scope (an_expression parameters body) = call_paid c x parameters body scope []
  value_by_paid c x scope (a_procedure parameters body) = refuses
  value_by_paid c x scope (an_argument argument around) = with_more (omega arith) (paid.expression (within around c) argument)

  value_found_paid : (c : Context) (x : Ident) (found : Option Found) → Counts 2 value_size (value_found p c x found)
  value_found_paid c x None = refuses
  value_found_paid c x (Some found) = value_by_paid c x found.scope found.meaning

  name_paid : (c : Context) (x : Ident) → Counts 2 value_size (name_value p c x)
  unfolding name_value
  name_paid c x = value_found_paid c x (find x.name c.scope)

  called_by_paid : (c : Context) (x : Ident) (arguments : List ExprTree) (scope : Scope) (meaning : Meaning)
      → Counts 2 value_size (called_by p c x arguments scope meaning)
  called_by_paid c x arguments scope (an_expression parameters body) = call_paid c x parameters body scope arguments
  called_by_paid c x arguments scope _ = refuses

  called_paid : (c : Context) (x : Ident) (arguments : List ExprTree) (found : Option Found) → Counts 2 value_size (called_found p c x arguments found)
  called_paid c x arguments None = refuses
  called_paid c x arguments (Some found) = called_by_paid c x arguments found.scope found.meaning

  call_form_paid : (c : Context) (x : Ident) (arguments : List ExprTree) → Counts 2 value_size (call p c x arguments)
  unfolding call
  call_form_paid c x arguments = called_paid c x arguments (find x.name c.scope)

  shown_by_paid : (c : Context) (x : Ident) (scope : Scope) (meaning : Meaning) → Counts 2 shown_parts (shown_by p c x scope meaning)
  shown_by_paid c x scope (an_object k) = object_shown_few x k
  shown_by_paid c x scope (an_argument argument around) = with_more (omega arith) (paid.before_index (within around c) argument)
  shown_by_paid c x scope meaning = maps 2 a_value (value_by_paid c x scope meaning) (omega arith) (λ v. omega arith)

  shown_found_paid : (c : Context) (x : Ident) (found : Option Found) → Counts 2 shown_parts (shown_found p c x found)
  shown_found_paid c x None = refuses
  shown_found_paid c x (Some found) = shown_by_paid c x found.scope found.meaning

  name_shown_paid : (c : Context) (x : Ident) → Counts 2 shown_parts (name_shown p c x)
  unfolding name_shown
  name_shown_paid c x = shown_found_paid c x (find x.name c.scope)

  -- a judged value, with one part more for its node
  valued : {n : ℕ} (place : Place) (j : Judged Operand) (m : ℕ) → Few m j → m + 1 ≤ n → Counts n value_size (judged place j)
  valued place j m few le = judges place j (λ r is. let f = few r is in omega arith)

  expression_layer_paid : (c : Context) (x : Layer) → Counts 16 value_size (expression_layer p c x)
  expression_layer_paid c (ExprTree-F.ExprTree::Number place value) = gives (omega arith)
  expression_layer_paid c (ExprTree-F.ExprTree::Name x) = with_more (omega arith) (name_paid c x)
  expression_layer_paid c (ExprTree-F.Call x arguments) = with_more (omega arith) (call_form_paid c x arguments)
  expression_layer_paid c (ExprTree-F.Port x port) = with_more (omega arith) (port_few c x port)
  expression_layer_paid c (ExprTree-F.Width place of) = after (paid.expression c of) (λ v. measured_few _ place v (omega arith))
  expression_layer_paid c (ExprTree-F.Select place condition a b) =
      after (constant_paid c condition) (λ v. with_more (omega arith) (paid.expression c (if holds v then a else b)))
  expression_layer_paid c (ExprTree-F.Index place of at) = after (paid.before_index c of) (λ shown. after (paid.expression c at) (λ i.
      with_more (omega arith) (index_of_few place at shown i)))
  expression_layer_paid c (ExprTree-F.Bits place of high low) = after (paid.expression c of) (λ v. after (constant_paid c high) (λ h. after (constant_paid c low) (λ l.
      knows (λ ks. valued place _ _ (cut_few ks v h l) (omega arith)))))
  expression_layer_paid c (ExprTree-F.Unary place op of) = after (paid.expression c of) (λ v. valued place _ _ (unary_few (unary_of op) v) (omega arith))
  expression_layer_paid c (ExprTree-F.Cast place to of) = after (type_paid c to) (λ t. after (paid.expression c of) (λ v.
      knows (λ ks. valued place _ _ (cast_few ks t.width t.signed v) (omega arith))))
  expression_layer_paid c (ExprTree-F.Binary place left op right) = after (paid.expression c left) (λ a. after (paid.expression c right) (λ b.
      knows (λ ks. valued place _ _ (binary_few ks (binary_of op) a b) (omega arith))))
  expression_layer_paid c (ExprTree-F.Choice place condition a b) = after (paid.expression c condition) (λ by. after (paid.expression c a) (λ x. after (paid.expression c b) (λ y.
      knows (λ ks. valued place _ _ (choose_few ks by x y) (omega arith)))))

  pub expression_paid : (c : Context) (x : ExprTree) → Counts 16 value_size (expression_form p c x)
  unfolding expression_form
  expression_paid c x = expression_layer_paid c (out-ExprTree x)

  before_index_layer_paid : (c : Context) (x : Layer) → Counts 16 shown_parts (before_index_layer p c x)
  before_index_layer_paid c (ExprTree-F.ExprTree::Name x) = with_more (omega arith) (name_shown_paid c x)
  before_index_layer_paid c other = maps 16 a_value (expression_layer_paid c other) (omega arith) (λ v. omega arith)

  pub before_index_paid : (c : Context) (x : ExprTree) → Counts 16 shown_parts (before_index_form p c x)
  unfolding before_index_form
  before_index_paid c x = before_index_layer_paid c (out-ExprTree x)
