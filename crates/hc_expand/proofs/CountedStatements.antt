-- Statements pay their parts by the nodes that they visit.
use Rattle.std.proofs.Common.{◌≡◌, ℕ, zero, suc, List, [], ◌+◌, ◌&&◌, not, ℤ, pos, ◌∷◌, Option, Some, None, is_some, slice_get, refl, ap, arith}
use Rattle.std.specs.Str.{bytes_eq}
use Rattle.hc_tree.specs.declared.place.Place.{Place}
use Rattle.hc_tree.specs.declared.name.Ident.{Ident}
use Rattle.hc_tree.specs.declared.expr.ExprTree.{ExprTree}
use Rattle.hc_tree.specs.declared.stmt.Order.{Order}
use Rattle.hc_tree.specs.declared.stmt.Order.TheVariants as order
use Rattle.hc_tree.specs.declared.stmt.Target as tree
use Rattle.hc_tree.specs.declared.stmt.Simple.{Simple}
use Rattle.hc_tree.specs.declared.stmt.Simple.TheVariants as simple
use Rattle.hc_tree.specs.declared.stmt.Block.{Block, out-Block}
use Rattle.hc_core.specs.Program as core
use Rattle.hc_core.specs.Program.{Statement, Target, ToElement, ToWord, Seq, Statements}
use Rattle.hc_core.specs.Parts.{expression_parts, target_parts, statement_parts, all_parts}
use Rattle.hc_core.specs.declared.expr.BinOp.{BinOp}
use Rattle.hc_core.specs.declared.object.Kind.{Kind}
use Rattle.hc_core.specs.declared.object.Kind.TheVariants as kind
use Rattle.hc_width.specs.Whole.{holds}
use Rattle.hc_width.specs.Operand.{Operand, Whole, Of}
use Rattle.hc_width.specs.Judged.{Gives, equal_signs}
use Rattle.hc_width.specs.Binary.{binary}
use Rattle.hc_width.proofs.Steps.{widths_give, signs_give}
use Rattle.hc_scope.specs.Scope.{Meaning, an_object, Scope, opened, declared, a_number, Named, missing, no_name, named, name_in}
use Rattle.hc_scope.specs.Expansion.{Expansion}
use Rattle.hc_scope.specs.Parts.{Context, TypeOf, Parts, within}
use Rattle.hc_scope.specs.Statement.{in_order, IndexAt, Destination, a_register, a_signal, an_element, a_word, TypedDestination, destination_of, destination_by, destination_index, destination_named, own_index, destination, index_at, target_of, value_of, operator, step_operator, new_value, assignment_to, assignment, simple_form, writes_variable, stepped, next_number, step_form, turned, turn_where, turn, turns_behind, turns, ordered, channel_kind, channel_by, channel_named, channel, kept, sent, received, send, receive}
use Rattle.hc_expand.proofs.CountedSteps.{Counts, none, after, after_few, maps, with_more, smaller, gives, refuses, knows, judges, either}
use Rattle.hc_expand.proofs.CountedWidths.{operand_parts, binary_few}
use Rattle.hc_expand.proofs.CountedParts.{sequence_parts, Paid}
use Rattle.hc_expand.proofs.CountedExpressions.{constant_few, constant_paid, index_few}
use Rattle.hc_expand.proofs.CountedDeclarations.{taken_few}

-- ---- targets

destination_of_few : (x : Ident) (k : ℕ) (i : Option IndexAt) (found : Option Kind) → Counts 0 none (destination_of x k i found)
destination_of_few x k None (Some (kind.Reg w s init)) = gives (omega arith)
destination_of_few x k None (Some (kind.Signal w s unset)) = gives (omega arith)
destination_of_few x k (Some i) (Some (kind.Array w s n init)) = gives (omega arith)
destination_of_few x k (Some i) (Some (kind.Ram w s n init)) = gives (omega arith)
destination_of_few x k i found = refuses

destination_by_few : (x : Ident) (i : Option IndexAt) (meaning : Meaning) → Counts 0 none (destination_by x i meaning)
destination_by_few x i (an_object k) = knows (λ ks. destination_of_few x k i (slice_get ks k))
destination_by_few x i meaning = refuses

destination_index_few : (x : Ident) (meaning : Meaning) (given : Option (ExprTree × Scope)) (own : Option IndexAt)
    → Counts 0 none (destination_index x meaning given own)
destination_index_few x meaning None own = destination_by_few x own meaning
destination_index_few x meaning (Some given) None = destination_by_few x (Some (record { index = given.0; scope = given.1 })) meaning
destination_index_few x meaning (Some given) (Some own) = refuses

destination_named_few : (own : Option IndexAt) (found : Named) → Counts 0 none (destination_named own found)
destination_named_few own (missing x) = refuses
destination_named_few own (no_name x) = refuses
destination_named_few own (named x meaning given) = destination_index_few x meaning given own

destination_few : (scope : Scope) (target : tree.Target) → Counts 0 none (destination scope target)
unfolding destination
destination_few scope target = destination_named_few (own_index scope target.index) (name_in scope target.name)

kept_few : (x : Ident) (d : Destination) → Counts 0 none (kept x d)
kept_few x (a_register k) = gives (omega arith)
kept_few x (a_signal k) = refuses
kept_few x (an_element k i) = gives (omega arith)
kept_few x (a_word k i) = gives (omega arith)

-- ---- replicators and channels

writes_few : (x : Ident) (target : tree.Target) → Counts 0 none (writes_variable x target)
writes_few x target = either (bytes_eq target.name.name x.name && not (is_some target.index)) (gives (omega arith)) refuses

stepped_few : (place : Place) (op : BinOp) (v : ℤ) (w : Operand) → Counts 1 none (stepped place op v w)
stepped_few place op v w = knows (λ ks. after (judges {size = none} place (binary ks op (Whole v) w) (λ r is. omega arith)) (λ r. smaller (λ n. omega arith) (constant_few _ place r (omega arith))))

pub ordered_few : (how : Order) (place : Place) (parts : Statements) → statement_parts (ordered how place parts) ≡ 1 + all_parts parts
ordered_few order.Seq place parts = refl
ordered_few order.Par place parts = refl

channel_kind_few : (x : Ident) (k : ℕ) (found : Option Kind) → Counts 0 none (channel_kind x k found)
channel_kind_few x k (Some (kind.Chan w s queue)) = gives (omega arith)
channel_kind_few x k _ = refuses

channel_by_few : (x : Ident) (given : Option (ExprTree × Scope)) (meaning : Meaning) → Counts 0 none (channel_by x given meaning)
channel_by_few x None (an_object k) = knows (λ ks. channel_kind_few x k (slice_get ks k))
channel_by_few x given meaning = refuses

channel_named_few : (found : Named) → Counts 0 none (channel_named found)
channel_named_few (missing x) = refuses
channel_named_few (no_name x) = refuses
channel_named_few (named x meaning given) = channel_by_few x given meaning

pub channel_few : (scope : Scope) (x : Ident) → Counts 0 none (channel scope x)
unfolding channel
channel_few scope x = channel_named_few (name_in scope x)

-- ---- forms

-- a turn's body
abbrev turn_parts : Option (Statement × ℤ) → ℕ
turn_parts None = 0
turn_parts (Some done) = statement_parts done.0

module _ (p : Parts) (paid : Paid p) where
  index_at_paid : (calls k : ℕ) (i : IndexAt) → Counts 0 expression_parts (index_at p calls k i)
  unfolding index_at
  index_at_paid calls k i = after (paid.expression (record { scope = i.scope; calls = calls }) i.index) (λ v. with_more (omega arith) (index_few k i.index v))

  target_paid : (calls : ℕ) (d : Destination) → Counts 1 target_parts (target_of p calls d)
  target_paid calls (a_register k) = gives (omega arith)
  target_paid calls (a_signal k) = gives (omega arith)
  target_paid calls (an_element k i) = maps 0 (ToElement k) (index_at_paid calls k i) (omega arith) (λ e. omega arith)
  target_paid calls (a_word k i) = maps 0 (ToWord k) (index_at_paid calls k i) (omega arith) (λ e. omega arith)

  value_of_paid : (calls : ℕ) (d : Destination) → Counts 1 operand_parts (value_of p calls d)
  value_of_paid calls (a_register k) = gives (omega arith)
  value_of_paid calls (a_signal k) = gives (omega arith)
  value_of_paid calls (an_element k i) = maps 0 (λ x. Of (core.Element k x)) (index_at_paid calls k i) (omega arith) (λ e. omega arith)
  value_of_paid calls (a_word k i) = maps 0 (λ x. Of (core.Word k x)) (index_at_paid calls k i) (omega arith) (λ e. omega arith)

  -- assignments: the statement, its target, an operator and two constants
  new_value_paid : (c : Context) (place : Place) (d : Destination) (op : Option BinOp) (value : Expansion Operand) → Counts 0 operand_parts value
      → Counts 3 operand_parts (new_value p c place d op value)
  new_value_paid c place d None value few = with_more (omega arith) few
  new_value_paid c place d (Some op) value few =
      after_few 1 (value_of_paid c.calls d) (omega arith) (λ x. after few (λ v. knows (λ ks. judges place _ (λ r is. let b = binary_few ks op x v r is in omega arith))))

  assignment_to_paid : (c : Context) (place : Place) (op : Option BinOp) (value : Expansion Operand) (d : TypedDestination) → Counts 0 operand_parts value
      → Counts 6 statement_parts (assignment_to p c place op value d)
  assignment_to_paid c place op value d few =
      after_few 1 (target_paid c.calls d.to) (omega arith) (λ to.
      after_few 3 (new_value_paid c place d.to op value few) (omega arith) (λ v. after_few (operand_parts v + 1) (taken_few d.type place v) (omega arith) (λ e. gives (omega arith))))

  assignment_paid : (c : Context) (place : Place) (target : tree.Target) (op : Option BinOp) (value : Expansion Operand) → Counts 0 operand_parts value
      → Counts 6 statement_parts (assignment p c place target op value)
  unfolding assignment
  assignment_paid c place target op value few = after (destination_few c.scope target) (λ d. with_more (omega arith) (assignment_to_paid c place op value d few))

  pub simple_paid : (c : Context) (x : Simple) → Counts 6 statement_parts (simple_form p c x)
  unfolding simple_form
  simple_paid c (simple.Assign place target how value) = assignment_paid c place target (operator how) _ (smaller (λ v. omega arith) (paid.expression c value))
  simple_paid c (simple.After place target way) = assignment_paid c place target (Some (step_operator way)) _ (gives {a = Whole (pos 1)} (omega arith))
  simple_paid c (simple.Before place way target) = assignment_paid c place target (Some (step_operator way)) _ (gives {a = Whole (pos 1)} (omega arith))

  -- replicators: the sequence of each turn is paid by its block
  next_paid : (c : Context) (place : Place) (v : ℤ) (op : Option BinOp) (value : ExprTree) → Counts 1 none (next_number p c place v op value)
  next_paid c place v None value = with_more (omega arith) (smaller (λ n. omega arith) (constant_paid p paid c value))
  next_paid c place v (Some op) value = after (paid.expression c value) (λ w. with_more (omega arith) (stepped_few place op v w))

  pub step_paid : (c : Context) (x : Ident) (v : ℤ) (s : Simple) → Counts 1 none (step_form p c x v s)
  unfolding step_form
  step_paid c x v (simple.Assign place target how value) = after (writes_few x target) (λ u. with_more (omega arith) (next_paid c place v (operator how) value))
  step_paid c x v (simple.After place target way) = after (writes_few x target) (λ u. with_more (omega arith) (stepped_few place (step_operator way) v (Whole (pos 1))))
  step_paid c x v (simple.Before place way target) = after (writes_few x target) (λ u. with_more (omega arith) (stepped_few place (step_operator way) v (Whole (pos 1))))

  turned_paid : (inner : Context) (x : Ident) (step : Simple) (body : Block) (v : ℤ) → Counts 0 turn_parts (turned p inner x step body v)
  turned_paid inner x step body v = after (paid.block inner body) (λ parts. after (paid.step inner x v step) (λ next.
      gives {a = Some (Seq (out-Block body).place (in_order parts), next)} (omega arith)))

  turn_paid : (c : Context) (x : Ident) (condition : ExprTree) (step : Simple) (body : Block) (v : ℤ) → Counts 0 turn_parts (turn p c x condition step body v)
  unfolding turn
  turn_paid c x condition step body v =
      let inner = within (declared x.name (a_number v) (opened c.scope)) c in
      after (constant_paid p paid inner condition) (λ holding. either (holds holding) (with_more (omega arith) (turned_paid inner x step body v)) (gives {a = None} (omega arith)))

  behind_paid : (others : ℤ → Expansion (List Statement)) → ((v : ℤ) → Counts 0 sequence_parts (others v)) → (o : Option (Statement × ℤ))
      → Counts (turn_parts o) sequence_parts (turns_behind others o)
  behind_paid others each None = gives {a = []} (omega arith)
  behind_paid others each (Some done) = after (each done.1) (λ rest. gives {a = done.0 ∷ rest} (omega arith))

  pub turns_paid : (most : ℕ) (c : Context) (place : Place) (x : Ident) (condition : ExprTree) (step : Simple) (body : Block) (v : ℤ)
      → Counts 0 sequence_parts (turns most p c place x condition step body v)
  unfolding turns
  turns_paid zero c place x condition step body v = refuses
  turns_paid (suc most) c place x condition step body v =
      after (turn_paid c x condition step body v)
      (λ o. with_more (omega arith) (behind_paid (turns most p c place x condition step body) (turns_paid most c place x condition step body) o))

  -- channels
  pub sent_paid : (c : Context) (place : Place) (t : TypeOf) (value : ExprTree) → Counts 0 expression_parts (sent p c place t value)
  unfolding sent
  sent_paid c place t value = after (paid.expression c value) (λ v. with_more (omega arith) (taken_few t place v))

  pub received_paid : (c : Context) (place : Place) (t : TypeOf) (target : tree.Target) → Counts 1 target_parts (received p c place t target)
  unfolding received
  received_paid c place t target = after (destination_few c.scope target) (λ d. after (kept_few d.name d.to) (λ u.
      after_few 1 (target_paid c.calls d.to) (omega arith) (λ to. judges place _ (λ r is. (
      let w = widths_give t.width d.type.width (equal_signs t.signed d.type.signed (Gives to)) r is in
      let s = signs_give t.signed d.type.signed (Gives to) r w.1 in
      let same : to ≡ r = cc in
      let parts = ap target_parts same in
      omega arith)))))

  pub send_paid : (c : Context) (place : Place) (x : Ident) (value : ExprTree) → Counts 1 statement_parts (send p c place x value)
  send_paid c place x value = after (channel_few c.scope x) (λ chan. after (sent_paid c place chan.type value) (λ e. gives (omega arith)))

  pub receive_paid : (c : Context) (place : Place) (x : Ident) (target : tree.Target) → Counts 2 statement_parts (receive p c place x target)
  receive_paid c place x target = after (channel_few c.scope x) (λ chan. after_few 1 (received_paid c place chan.type target) (omega arith) (λ to. gives (omega arith)))
