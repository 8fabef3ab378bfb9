-- Statements with parts of their own pay them by the nodes that they visit.
use Rattle.std.proofs.Common.{ℕ, Bool, List, [], ◌∷◌, length, Option, Some, None, arith}
use Rattle.hc_tree.specs.declared.place.Place.{Place}
use Rattle.hc_tree.specs.declared.name.Ident.{Ident}
use Rattle.hc_tree.specs.declared.expr.ExprTree.{ExprTree}
use Rattle.hc_tree.specs.declared.stmt.Condition.TheVariants as condition
use Rattle.hc_tree.specs.declared.stmt.Simple.{Simple}
use Rattle.hc_tree.specs.declared.stmt.Label.{Label}
use Rattle.hc_tree.specs.declared.stmt.Label.TheVariants as label
use Rattle.hc_tree.specs.declared.stmt.Offer.{Offer}
use Rattle.hc_tree.specs.declared.stmt.Offer.TheVariants as offer
use Rattle.hc_tree.specs.declared.stmt.LocalItem.{LocalItem, out-LocalItem}
use Rattle.hc_tree.specs.declared.stmt.LocalItem.TheOpen.{LocalItem-F, Macro-F, Stmt-F}
use Rattle.hc_tree.specs.declared.stmt.Macro.{Macro, out-Macro}
use Rattle.hc_tree.specs.declared.stmt.Block.{Block, out-Block}
use Rattle.hc_tree.specs.declared.stmt.Stmt.{Stmt, out-Stmt}
use Rattle.hc_tree.specs.declared.stmt.Arm.{Arm, out-Arm}
use Rattle.hc_tree.specs.declared.stmt.Case.{Case, out-Case}
use Rattle.hc_tree.specs.declared.stmt.Other.{Other, out-Other}
use Rattle.hc_core.specs.Program.{Expression, Target, Statement, Seq, Par, If, While, DoWhile, Switch, Prialt, PrialtElse, stop, ◌⨾◌, Cases, send_case, receive_case}
use Rattle.hc_core.specs.Parts.{expression_parts, statement_parts, cases_parts, arms_parts}
use Rattle.hc_core.specs.Typed.{width_of, sign_of}
use Rattle.hc_width.specs.Whole.{holds}
use Rattle.hc_width.specs.Operand.{Operand, Whole, Of}
use Rattle.hc_width.specs.Parts as width
use Rattle.hc_scope.specs.Scope.{Meaning, a_procedure, Scope, opened, Found, find}
use Rattle.hc_scope.specs.Expansion.{Expansion, ◌>>=◌, pure, each}
use Rattle.hc_scope.specs.Parts.{Context, TypeOf, within, Parts, place_of}
use Rattle.hc_scope.specs.Statement.{in_order, ordered, sent, received, Channel, channel, macro_layer, macro_form, macro_place, local_layer, locals, block_form, run_by, run_found, run, statement_or_skip, simple_or_skip, condition_or_one, needs_type, labels, has_default, arm_form, arms_of, switch, offered, case_form, other_form, cases_of, prialt, StmtLayer, statement_layer, statement_form}
use Rattle.hc_expand.proofs.CountedSteps.{Counts, none, after, after_few, maps, with_more, gives, refuses, knows, either, each_few}
use Rattle.hc_expand.proofs.CountedWidths.{operand_parts, condition_few}
use Rattle.hc_expand.proofs.CountedParts.{sequence_parts, arm_size, case_size, Adds, Ends, ends_after, ends_mapped, ends_given, after_mapped, after_known, Paid}
use Rattle.hc_expand.proofs.CountedExpressions.{constant_paid, call_context_few}
use Rattle.hc_expand.proofs.CountedDeclarations.{fresh_few, initial_paid, declaration_paid}
use Rattle.hc_expand.proofs.CountedStatements.{ordered_few, channel_few, simple_paid, turns_paid, sent_paid, received_paid, send_paid, receive_paid}

macro_layer_few : (c : Context) (m : Macro-F LocalItem Macro Stmt Arm Block Case Other) → Counts 0 none (macro_layer c m)
macro_layer_few c (Macro-F.Expr place x parameters value) = after (fresh_few c x) (λ u. gives (omega arith))
macro_layer_few c (Macro-F.Proc place x parameters body) = after (fresh_few c x) (λ u. gives (omega arith))

pub macro_few : (c : Context) (m : Macro) → Counts 0 none (macro_form c m)
unfolding macro_form
macro_few c m = macro_layer_few c (out-Macro m)

type_needed_few : (place : Place) (v : Operand) → Counts (operand_parts v) expression_parts (needs_type place v)
type_needed_few place (Whole v) = refuses
type_needed_few place (Of x) = gives (omega arith)

-- what a case waits for, in front of its arm
abbrev sending : ℕ → Expression → Statement → Cases → Cases
sending k e arm rest = send_case k e arm rest

abbrev receiving : ℕ → Target → Statement → Cases → Cases
receiving k to arm rest = receive_case k to arm rest

-- a case with its arm
abbrev completed : Parts → Context → Place → List Stmt → (Statement → Cases → Cases) → Expansion (Cases → Cases)
completed p c place stmts made = each (p.statement c) stmts >>= (λ parts. pure (made (Seq place (in_order parts))))

module _ (p : Parts) (paid : Paid p) where
  -- ---- blocks

  local_paid : (c : Context) (item : LocalItem-F LocalItem Macro Stmt Arm Block Case Other) → Counts 0 none (local_layer p c item)
  local_paid c (LocalItem-F.Decl d) = declaration_paid p paid c d
  local_paid c (LocalItem-F.Macro m) = after (paid.leaf c (macro_place m)) (λ u. macro_few c m)

  locals_paid : (c : Context) (items : List LocalItem) → Counts 0 none (locals p c items)
  locals_paid c [] = gives (omega arith)
  locals_paid c (item ∷ rest) = after (local_paid c (out-LocalItem item)) (λ inner. locals_paid inner rest)

  statements_paid : (c : Context) (list : List Stmt) → Counts 0 sequence_parts (each (p.statement c) list)
  statements_paid c list = each_few {size = statement_parts} {sizes = sequence_parts} (omega arith) (λ s more. omega arith) (λ s. paid.statement c s) list

  pub block_paid : (c : Context) (b : Block) → Counts 0 sequence_parts (block_form p c b)
  unfolding block_form
  block_paid c b = after (locals_paid (within (opened c.scope) c) (out-Block b).declared) (λ inner. statements_paid inner (out-Block b).stmts)

  -- ---- statements of one form

  run_by_paid : (c : Context) (place : Place) (x : Ident) (arguments : List ExprTree) (scope : Scope) (meaning : Meaning)
      → Counts 0 statement_parts (run_by p c place x arguments scope meaning)
  run_by_paid c place x arguments scope (a_procedure parameters body) =
      after (call_context_few c x parameters scope arguments) (λ inner. after (paid.block inner body) (λ parts. gives (omega arith)))
  run_by_paid c place x arguments scope meaning = refuses

  run_found_paid : (c : Context) (place : Place) (x : Ident) (arguments : List ExprTree) (found : Option Found)
      → Counts 0 statement_parts (run_found p c place x arguments found)
  run_found_paid c place x arguments None = refuses
  run_found_paid c place x arguments (Some found) = run_by_paid c place x arguments found.scope found.meaning

  run_paid : (c : Context) (place : Place) (x : Ident) (arguments : List ExprTree) → Counts 0 statement_parts (run p c place x arguments)
  unfolding run
  run_paid c place x arguments = run_found_paid c place x arguments (find x.name c.scope)

  or_skip_paid : (c : Context) (s : Option Stmt) → Counts 1 statement_parts (statement_or_skip p c s)
  or_skip_paid c None = gives (omega arith)
  or_skip_paid c (Some s) = with_more (omega arith) (paid.statement c s)

  simple_or_skip_paid : (c : Context) (x : Option Simple) → Counts 1 statement_parts (simple_or_skip p c x)
  simple_or_skip_paid c None = gives (omega arith)
  simple_or_skip_paid c (Some x) = with_more (omega arith) (paid.simple c x)

  condition_paid : (c : Context) (x : Option ExprTree) → Counts 1 expression_parts (condition_or_one p c x)
  condition_paid c None = gives (omega arith)
  condition_paid c (Some x) = maps 0 width.condition (paid.expression c x) (omega arith) (λ v. let k = condition_few v in omega arith)

  -- ---- `switch`

  labels_paid : (c : Context) (t : TypeOf) (list : List Label) → Counts 0 length (labels p c t list)
  labels_paid c t [] = gives (omega arith)
  labels_paid c t (label.Case place value ∷ rest) = after (initial_paid p paid c t value) (λ n. after (labels_paid c t rest) (λ more. gives {a = n ∷ more} (omega arith)))
  labels_paid c t (label.Default place ∷ rest) = labels_paid c t rest

  pub arm_paid : (c : Context) (w : ℕ) (s : Bool) (a : Arm) → Counts 2 arm_size (arm_form p c w s a)
  unfolding arm_form
  arm_paid c w s a = after (labels_paid c (record { width = w; signed = s }) (out-Arm a).labels) (λ values. after (statements_paid c (out-Arm a).stmts) (λ parts.
      gives {a = record { values = values; other = has_default (out-Arm a).labels; body = Seq (out-Arm a).place (in_order parts) }} (omega arith)))

  arms_paid : (c : Context) (w : ℕ) (s : Bool) (list : List Arm) → Counts 0 (λ all. arms_parts (arms_of all)) (each (p.arm c w s) list)
  arms_paid c w s list = each_few {size = arm_size} {sizes = λ all. arms_parts (arms_of all)} (omega arith) (λ a more. omega arith) (λ a. paid.arm c w s a) list

  switch_paid : (c : Context) (place : Place) (selector : ExprTree) (arms : List Arm) → Counts 1 statement_parts (switch p c place selector arms)
  unfolding switch
  switch_paid c place selector arms = after (paid.expression c selector) (λ v. after_few (operand_parts v) (type_needed_few (place_of selector) v) (omega arith) (λ x.
      knows (λ ks. after (arms_paid c (width_of ks x) (sign_of ks x) arms) (λ all. gives {a = Switch place x (arms_of all)} (omega arith)))))

  -- ---- `prialt`

  offer_paid : (c : Context) (place : Place) (chan : Channel) (o : Offer) (stmts : List Stmt)
      → Counts 3 case_size (offered p c place chan o >>= completed p c place stmts)
  offer_paid c place chan (offer.Send value) stmts =
      after_mapped 0 (sending chan.number) (completed p c place stmts) (sent_paid p paid c place chan.type value) (omega arith) (λ e. after (statements_paid c stmts) (λ parts.
      gives {a = sending chan.number e (Seq place (in_order parts))} (omega arith)))
  offer_paid c place chan (offer.Receive target) stmts =
      after_mapped 1 (receiving chan.number) (completed p c place stmts) (received_paid p paid c place chan.type target) (omega arith) (λ to. after (statements_paid c stmts) (λ parts.
      gives {a = receiving chan.number to (Seq place (in_order parts))} (omega arith)))

  pub case_paid : (c : Context) (x : Case) → Counts 3 case_size (case_form p c x)
  unfolding case_form
  case_paid c x = after (channel_few c.scope (out-Case x).channel) (λ chan. with_more (omega arith) (offer_paid c (out-Case x).place chan (out-Case x).offer (out-Case x).stmts))

  offer_adds : (c : Context) (place : Place) (chan : Channel) (o : Offer) (stmts : List Stmt)
      → Ends (λ made t. Adds made) (offered p c place chan o >>= completed p c place stmts)
  offer_adds c place chan (offer.Send value) stmts =
      ends_mapped (sent p c place chan.type value) (sending chan.number) (completed p c place stmts) (λ e. ends_after _ (λ parts.
      ends_given {good = Adds} {a = sending chan.number e (Seq place (in_order parts))} (λ rest. omega arith)))
  offer_adds c place chan (offer.Receive target) stmts =
      ends_mapped (received p c place chan.type target) (receiving chan.number) (completed p c place stmts) (λ to. ends_after _ (λ parts.
      ends_given {good = Adds} {a = receiving chan.number to (Seq place (in_order parts))} (λ rest. omega arith)))

  pub case_adds : (c : Context) (x : Case) → Ends (λ made t. Adds made) (case_form p c x)
  unfolding case_form
  case_adds c x = ends_after _ (λ chan. offer_adds c (out-Case x).place chan (out-Case x).offer (out-Case x).stmts)

  cases_paid : (c : Context) (list : List Case) → Counts 0 (λ all. cases_parts (cases_of all)) (each (p.case c) list)
  cases_paid c [] = gives (omega arith)
  cases_paid c (x ∷ rest) = after_known {good = Adds} (paid.case c x) (paid.adds c x) (λ made adds. after (cases_paid c rest) (λ more.
      gives {a = made ∷ more} (let both = adds (cases_of more) in omega arith)))

  pub other_paid : (c : Context) (x : Other) → Counts 1 statement_parts (other_form p c x)
  unfolding other_form
  other_paid c x = maps 0 (λ parts. Seq (out-Other x).place (in_order parts)) (statements_paid c (out-Other x).stmts) (omega arith) (λ parts. omega arith)

  prialt_paid : (c : Context) (place : Place) (cases : List Case) (other : Option Other) → Counts 1 statement_parts (prialt p c place cases other)
  prialt_paid c place cases None = maps 0 (λ all. Prialt place (cases_of all)) (cases_paid c cases) (omega arith) (λ all. omega arith)
  prialt_paid c place cases (Some other) = after (cases_paid c cases) (λ all. after (paid.other c other) (λ rest. gives {a = PrialtElse place (cases_of all) rest} (omega arith)))

  -- ---- one clause for each form

  layer_paid : (c : Context) (s : StmtLayer) → Counts 16 statement_parts (statement_layer p c s)
  layer_paid c (Stmt-F.Empty place) = gives (omega arith)
  layer_paid c (Stmt-F.Block b) = maps 0 (λ parts. Seq (out-Block b).place (in_order parts)) (block_paid c b) (omega arith) (λ parts. omega arith)
  layer_paid c (Stmt-F.Seq place body) = maps 0 (λ parts. Seq place (in_order parts)) (block_paid c body) (omega arith) (λ parts. omega arith)
  layer_paid c (Stmt-F.Par place body) = maps 0 (λ parts. Par place (in_order parts)) (block_paid c body) (omega arith) (λ parts. omega arith)
  layer_paid c (Stmt-F.Replicator place how x first condition step body) = after (constant_paid p paid c first) (λ v.
      after (turns_paid p paid 1000001 c place x condition step body v) (λ bodies. gives {a = ordered how place (in_order bodies)} (let o = ordered_few how place (in_order bodies) in omega arith)))
  layer_paid c (Stmt-F.Simple x) = with_more (omega arith) (simple_paid p paid c x)
  layer_paid c (Stmt-F.Delay place) = gives (omega arith)
  layer_paid c (Stmt-F.Send place x value) = with_more (omega arith) (send_paid p paid c place x value)
  layer_paid c (Stmt-F.Receive place x target) = with_more (omega arith) (receive_paid p paid c place x target)
  layer_paid c (Stmt-F.Call place x arguments) = with_more (omega arith) (run_paid c place x arguments)
  layer_paid c (Stmt-F.If place condition.If e a b) = after (paid.expression c e) (λ v. after (paid.statement c a) (λ then_part.
      after_few 1 (or_skip_paid c b) (omega arith) (λ else_part. gives {a = If place (width.condition v) then_part else_part} (let k = condition_few v in omega arith))))
  layer_paid c (Stmt-F.If place condition.IfSelect e a b) = after (constant_paid p paid c e) (λ v. either (holds v) (with_more (omega arith) (paid.statement c a)) (with_more (omega arith) (or_skip_paid c b)))
  layer_paid c (Stmt-F.While place e body) = after (paid.expression c e) (λ v. after (paid.statement c body) (λ part.
      gives {a = While place (width.condition v) part} (let k = condition_few v in omega arith)))
  layer_paid c (Stmt-F.DoWhile place body e) = after (paid.statement c body) (λ part. after (paid.expression c e) (λ v.
      gives {a = DoWhile place part (width.condition v)} (let k = condition_few v in omega arith)))
  layer_paid c (Stmt-F.For place first e last body) = after_few 1 (simple_or_skip_paid c first) (omega arith) (λ a. after_few 1 (condition_paid c e) (omega arith) (λ holding.
      after_few 1 (simple_or_skip_paid c last) (omega arith) (λ b. after (paid.statement c body) (λ part.
      gives {a = Seq place (a ⨾ While place holding (Seq place (part ⨾ b ⨾ stop)) ⨾ stop)} (omega arith)))))
  layer_paid c (Stmt-F.Switch place selector arms) = with_more (omega arith) (switch_paid c place selector arms)
  layer_paid c (Stmt-F.Prialt place cases other) = with_more (omega arith) (prialt_paid c place cases other)

  pub statement_paid : (c : Context) (s : Stmt) → Counts 16 statement_parts (statement_form p c s)
  unfolding statement_form
  statement_paid c s = layer_paid c (out-Stmt s)
