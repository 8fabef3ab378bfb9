-- Which forms of the language may be empty, and where they are.
use Rattle.std.proofs.Common.{◌≡◌, ◌⊎◌, inl, inr, not, ◌==◌, ℕ, zero, suc, Bool, true, false, if◌then◌else◌, [], Option, Some, None, refl}
use Rattle.hc_tree.specs.declared.stmt.Order.{Order}
use Rattle.hc_lex.specs.declared.mark.Mark.TheVariants as m
use Rattle.hc_lex.specs.declared.token.Placed.{Placed}
use Rattle.hc_tree.specs.declared.expr.BinaryOp.{BinaryOp}
use Rattle.hc_grammar.specs.declared.kind.Kind.{Kind}
use Rattle.hc_grammar.specs.declared.kind.Kind.TheVariants as k
use Rattle.hc_grammar.specs.Kind.{kind, is_name}
use Rattle.hc_grammar.specs.Table.{Rule, Reads, by, done, part}
use Rattle.hc_grammar.specs.Form as f
use Rattle.hc_grammar.specs.Form.{Form, Gives, Initial, Never, Maybe, Always}
use Rattle.hc_grammar.specs.Expression.{Rules, name_rule, text_rule, expr_rule, choice_tail_rule, binary_rule, binary_tail_rule, unary_rule, paren_tail_rule, primary_rule, name_tail_rule, args_rule, more_exprs_rule, postfix_tail_rule, bits_tail_rule, type_rule, unsigned_tail_rule, signed_tail_rule, size_rule, binary_op, unary_op, begins_type}
use Rattle.hc_grammar.specs.Declaration.{decl_rule, static_tail_rule, vars_tail_rule, more_vars_rule, var_rule, var_tail_rule, memories_tail_rule, mem_rule, more_mems_rule, mem_init_rule, boxed_rule, sig_rule, sig_tail_rule, more_sigs_rule, more_names_rule, with_rule, spec_rule, more_specs_rule, spec_value_rule, more_texts_rule}
use Rattle.hc_grammar.specs.Statement.{block_rule, declared_rule, stmts_rule, stmt_rule, order_tail_rule, name_stmt_tail_rule, else_tail_rule, simple_rule, simple_tail_rule, opt_simple_rule, opt_expr_rule, target_rule, index_rule, assign_rule, arms_rule, arm_tail_rule, arm_end_rule, cases_rule, offer_rule, case_end_rule, more_cases_rule, other_end_rule, begins_decl, begins_stmt}
use Rattle.hc_grammar.specs.Item.{program_rule, items_rule, item_rule, set_tail_rule, opt_void_rule, interface_tail_rule, macro_rule, macro_tail_rule, params_rule, opt_params_rule, names_rule}
use Rattle.hc_grammar.specs.Grammar.{grammar, rule}
use Rattle.hc_grammar.specs.LastTable.{row_may, MayBeEmpty}

-- the forms that may be empty
abbrev pub may_be_empty : Form → Bool
may_be_empty f.choice_tail = true
may_be_empty (f.binary_tail x) = true
may_be_empty f.name_tail = true
may_be_empty f.args = true
may_be_empty f.more_exprs = true
may_be_empty f.postfix_tail = true
may_be_empty (f.more_vars x) = true
may_be_empty (f.var_tail x) = true
may_be_empty (f.more_mems x) = true
may_be_empty (f.mem_init Always) = false
may_be_empty (f.mem_init i) = true
may_be_empty f.sig_tail = true
may_be_empty f.more_sigs = true
may_be_empty f.more_names = true
may_be_empty f.with = true
may_be_empty f.more_specs = true
may_be_empty f.more_texts = true
may_be_empty f.declared = true
may_be_empty f.stmts = true
may_be_empty f.else_tail = true
may_be_empty f.opt_simple = true
may_be_empty f.opt_expr = true
may_be_empty f.index = true
may_be_empty (f.arms x) = true
may_be_empty (f.arm_tail x) = true
may_be_empty (f.arm_end x) = true
may_be_empty f.case_end = true
may_be_empty f.more_cases = true
may_be_empty f.other_end = true
may_be_empty f.program = true
may_be_empty f.items = true
may_be_empty f.opt_void = true
may_be_empty f.opt_params = true
may_be_empty f.names = true
may_be_empty _ = false

abbrev never_empty : {x : Form} → Rules x → Bool
never_empty None = true
never_empty (Some r) = not (row_may may_be_empty r.row)

-- before a token a form is empty as it is at the end, or it is not empty there
abbrev Kept : (x : Form) → Rules x → Rules x → Type 0
Kept x at_end rules = (rules ≡ at_end) ⊎ (never_empty rules ≡ true)

kept-if : (x : Form) (at_end rules : Rules x) → never_empty rules ≡ true → (b : Bool) → Kept x at_end (if b then rules else at_end)
kept-if x at_end rules full true = inr full
kept-if x at_end rules full false = inl refl

kept-name : (t : Placed) (kind_is : Kind) → kind t ≡ kind_is → Kept f.name (rule f.name None) (rule f.name (Some t))
unfolding rule name_rule is_name
kept-name t (k.Mark m.Question) e = rw e (inr refl)
kept-name t _ e = rw e (inr refl)

kept-text : (t : Placed) (kind_is : Kind) → kind t ≡ kind_is → Kept f.text (rule f.text None) (rule f.text (Some t))
unfolding rule text_rule
kept-text t (k.Mark m.Question) e = rw e (inr refl)
kept-text t _ e = rw e (inr refl)

kept-expr : (t : Placed) (kind_is : Kind) → kind t ≡ kind_is → Kept f.expr (rule f.expr None) (rule f.expr (Some t))
unfolding rule expr_rule
kept-expr t kind_is e = inr refl

kept-choice_tail : (t : Placed) (kind_is : Kind) → kind t ≡ kind_is → Kept f.choice_tail (rule f.choice_tail None) (rule f.choice_tail (Some t))
unfolding rule choice_tail_rule
kept-choice_tail t (k.Mark m.Question) e = rw e (inr refl)
kept-choice_tail t _ e = rw e (inl refl)

kept-binary : (n : ℕ) (t : Placed) (kind_is : Kind) → kind t ≡ kind_is → Kept (f.binary n) (rule (f.binary n) None) (rule (f.binary n) (Some t))
unfolding rule binary_rule
kept-binary zero t kind_is e = inr refl
kept-binary (suc n) t kind_is e = inr refl

kept-binary_tail_by : (n : ℕ) (t : Placed) (o : Option (ℕ × BinaryOp)) → binary_op (kind t) ≡ o → Kept (f.binary_tail n) (rule (f.binary_tail n) None) (rule (f.binary_tail n) (Some t))
unfolding rule binary_tail_rule
kept-binary_tail_by n t None e = rw e (inl refl)
kept-binary_tail_by n t (Some found) e = rw e (kept-if _ _ _ refl (found.0 == n))

kept-binary_tail : (n : ℕ) (t : Placed) (kind_is : Kind) → kind t ≡ kind_is → Kept (f.binary_tail n) (rule (f.binary_tail n) None) (rule (f.binary_tail n) (Some t))
kept-binary_tail n t kind_is e = kept-binary_tail_by n t (binary_op (kind t)) refl

kept-unary : (t : Placed) (kind_is : Kind) → kind t ≡ kind_is → Kept f.unary (rule f.unary None) (rule f.unary (Some t))
unfolding rule unary_rule unary_op
kept-unary t (k.Mark m.Question) e = rw e (inr refl)
kept-unary t _ e = rw e (inr refl)

kept-paren_tail : (t : Placed) (kind_is : Kind) → kind t ≡ kind_is → Kept f.paren_tail (rule f.paren_tail None) (rule f.paren_tail (Some t))
unfolding rule paren_tail_rule begins_type
kept-paren_tail t (k.Mark m.Question) e = rw e (inr refl)
kept-paren_tail t _ e = rw e (inr refl)

kept-primary : (t : Placed) (kind_is : Kind) → kind t ≡ kind_is → Kept f.primary (rule f.primary None) (rule f.primary (Some t))
unfolding rule primary_rule is_name
kept-primary t (k.Mark m.Question) e = rw e (inr refl)
kept-primary t _ e = rw e (inr refl)

kept-name_tail : (t : Placed) (kind_is : Kind) → kind t ≡ kind_is → Kept f.name_tail (rule f.name_tail None) (rule f.name_tail (Some t))
unfolding rule name_tail_rule
kept-name_tail t (k.Mark m.ParenOpen) e = rw e (inr refl)
kept-name_tail t (k.Mark m.Dot) e = rw e (inr refl)
kept-name_tail t _ e = rw e (inl refl)

kept-args : (t : Placed) (kind_is : Kind) → kind t ≡ kind_is → Kept f.args (rule f.args None) (rule f.args (Some t))
unfolding rule args_rule
kept-args t (k.Mark m.ParenClose) e = rw e (inl refl)
kept-args t _ e = rw e (inr refl)

kept-more_exprs : (t : Placed) (kind_is : Kind) → kind t ≡ kind_is → Kept f.more_exprs (rule f.more_exprs None) (rule f.more_exprs (Some t))
unfolding rule more_exprs_rule
kept-more_exprs t (k.Mark m.Comma) e = rw e (inr refl)
kept-more_exprs t _ e = rw e (inl refl)

kept-postfix_tail : (t : Placed) (kind_is : Kind) → kind t ≡ kind_is → Kept f.postfix_tail (rule f.postfix_tail None) (rule f.postfix_tail (Some t))
unfolding rule postfix_tail_rule
kept-postfix_tail t (k.Mark m.BracketOpen) e = rw e (inr refl)
kept-postfix_tail t _ e = rw e (inl refl)

kept-bits_tail : (t : Placed) (kind_is : Kind) → kind t ≡ kind_is → Kept f.bits_tail (rule f.bits_tail None) (rule f.bits_tail (Some t))
unfolding rule bits_tail_rule
kept-bits_tail t (k.Mark m.Question) e = rw e (inr refl)
kept-bits_tail t _ e = rw e (inr refl)

kept-type : (t : Placed) (kind_is : Kind) → kind t ≡ kind_is → Kept f.type (rule f.type None) (rule f.type (Some t))
unfolding rule type_rule
kept-type t (k.Mark m.Question) e = rw e (inr refl)
kept-type t _ e = rw e (inr refl)

kept-unsigned_tail : (t : Placed) (kind_is : Kind) → kind t ≡ kind_is → Kept f.unsigned_tail (rule f.unsigned_tail None) (rule f.unsigned_tail (Some t))
unfolding rule unsigned_tail_rule
kept-unsigned_tail t (k.Mark m.Question) e = rw e (inr refl)
kept-unsigned_tail t _ e = rw e (inr refl)

kept-signed_tail : (t : Placed) (kind_is : Kind) → kind t ≡ kind_is → Kept f.signed_tail (rule f.signed_tail None) (rule f.signed_tail (Some t))
unfolding rule signed_tail_rule
kept-signed_tail t (k.Mark m.Question) e = rw e (inr refl)
kept-signed_tail t _ e = rw e (inr refl)

kept-size : (t : Placed) (kind_is : Kind) → kind t ≡ kind_is → Kept f.size (rule f.size None) (rule f.size (Some t))
unfolding rule size_rule is_name
kept-size t (k.Mark m.Question) e = rw e (inr refl)
kept-size t _ e = rw e (inr refl)

kept-decl : (b : Bool) (t : Placed) (kind_is : Kind) → kind t ≡ kind_is → Kept (f.decl b) (rule (f.decl b) None) (rule (f.decl b) (Some t))
unfolding rule decl_rule begins_type
kept-decl l t (k.Mark m.Question) e = rw e (inr refl)
kept-decl l t _ e = rw e (inr refl)

kept-static_tail : (t : Placed) (kind_is : Kind) → kind t ≡ kind_is → Kept f.static_tail (rule f.static_tail None) (rule f.static_tail (Some t))
unfolding rule static_tail_rule begins_type
kept-static_tail t (k.Mark m.Question) e = rw e (inr refl)
kept-static_tail t _ e = rw e (inr refl)

kept-vars_tail : (b : Bool) (t : Placed) (kind_is : Kind) → kind t ≡ kind_is → Kept (f.vars_tail b) (rule (f.vars_tail b) None) (rule (f.vars_tail b) (Some t))
unfolding rule vars_tail_rule
kept-vars_tail b t kind_is e = inr refl

kept-more_vars : (b : Bool) (t : Placed) (kind_is : Kind) → kind t ≡ kind_is → Kept (f.more_vars b) (rule (f.more_vars b) None) (rule (f.more_vars b) (Some t))
unfolding rule more_vars_rule
kept-more_vars b t (k.Mark m.Comma) e = rw e (inr refl)
kept-more_vars b t _ e = rw e (inl refl)

kept-var : (b : Bool) (t : Placed) (kind_is : Kind) → kind t ≡ kind_is → Kept (f.var b) (rule (f.var b) None) (rule (f.var b) (Some t))
unfolding rule var_rule
kept-var b t kind_is e = inr refl

kept-var_tail : (b : Bool) (t : Placed) (kind_is : Kind) → kind t ≡ kind_is → Kept (f.var_tail b) (rule (f.var_tail b) None) (rule (f.var_tail b) (Some t))
unfolding rule var_tail_rule
kept-var_tail true t (k.Mark m.BracketOpen) e = rw e (inr refl)
kept-var_tail true t (k.Mark m.Assign) e = rw e (inr refl)
kept-var_tail true t _ e = rw e (inl refl)
kept-var_tail false t (k.Mark m.BracketOpen) e = rw e (inr refl)
kept-var_tail false t _ e = rw e (inl refl)

kept-memories_tail : (i : Initial) (t : Placed) (kind_is : Kind) → kind t ≡ kind_is → Kept (f.memories_tail i) (rule (f.memories_tail i) None) (rule (f.memories_tail i) (Some t))
unfolding rule memories_tail_rule
kept-memories_tail i t kind_is e = inr refl

kept-mem : (i : Initial) (t : Placed) (kind_is : Kind) → kind t ≡ kind_is → Kept (f.mem i) (rule (f.mem i) None) (rule (f.mem i) (Some t))
unfolding rule mem_rule
kept-mem i t kind_is e = inr refl

kept-more_mems : (i : Initial) (t : Placed) (kind_is : Kind) → kind t ≡ kind_is → Kept (f.more_mems i) (rule (f.more_mems i) None) (rule (f.more_mems i) (Some t))
unfolding rule more_mems_rule
kept-more_mems i t (k.Mark m.Comma) e = rw e (inr refl)
kept-more_mems i t _ e = rw e (inl refl)

kept-mem_init : (i : Initial) (t : Placed) (kind_is : Kind) → kind t ≡ kind_is → Kept (f.mem_init i) (rule (f.mem_init i) None) (rule (f.mem_init i) (Some t))
unfolding rule mem_init_rule
kept-mem_init Never t kind_is e = inl refl
kept-mem_init Maybe t (k.Mark m.Assign) e = rw e (inr refl)
kept-mem_init Maybe t _ e = rw e (inl refl)
kept-mem_init Always t kind_is e = inr refl

kept-boxed : (t : Placed) (kind_is : Kind) → kind t ≡ kind_is → Kept f.boxed (rule f.boxed None) (rule f.boxed (Some t))
unfolding rule boxed_rule
kept-boxed t (k.Mark m.Question) e = rw e (inr refl)
kept-boxed t _ e = rw e (inr refl)

kept-sig : (t : Placed) (kind_is : Kind) → kind t ≡ kind_is → Kept f.sig (rule f.sig None) (rule f.sig (Some t))
unfolding rule sig_rule
kept-sig t kind_is e = inr refl

kept-sig_tail : (t : Placed) (kind_is : Kind) → kind t ≡ kind_is → Kept f.sig_tail (rule f.sig_tail None) (rule f.sig_tail (Some t))
unfolding rule sig_tail_rule
kept-sig_tail t (k.Mark m.Assign) e = rw e (inr refl)
kept-sig_tail t _ e = rw e (inl refl)

kept-more_sigs : (t : Placed) (kind_is : Kind) → kind t ≡ kind_is → Kept f.more_sigs (rule f.more_sigs None) (rule f.more_sigs (Some t))
unfolding rule more_sigs_rule
kept-more_sigs t (k.Mark m.Comma) e = rw e (inr refl)
kept-more_sigs t _ e = rw e (inl refl)

kept-more_names : (t : Placed) (kind_is : Kind) → kind t ≡ kind_is → Kept f.more_names (rule f.more_names None) (rule f.more_names (Some t))
unfolding rule more_names_rule
kept-more_names t (k.Mark m.Comma) e = rw e (inr refl)
kept-more_names t _ e = rw e (inl refl)

kept-with : (t : Placed) (kind_is : Kind) → kind t ≡ kind_is → Kept f.with (rule f.with None) (rule f.with (Some t))
unfolding rule with_rule
kept-with t k.With e = rw e (inr refl)
kept-with t _ e = rw e (inl refl)

kept-spec : (t : Placed) (kind_is : Kind) → kind t ≡ kind_is → Kept f.spec (rule f.spec None) (rule f.spec (Some t))
unfolding rule spec_rule
kept-spec t kind_is e = inr refl

kept-more_specs : (t : Placed) (kind_is : Kind) → kind t ≡ kind_is → Kept f.more_specs (rule f.more_specs None) (rule f.more_specs (Some t))
unfolding rule more_specs_rule
kept-more_specs t (k.Mark m.Comma) e = rw e (inr refl)
kept-more_specs t _ e = rw e (inl refl)

kept-spec_value : (t : Placed) (kind_is : Kind) → kind t ≡ kind_is → Kept f.spec_value (rule f.spec_value None) (rule f.spec_value (Some t))
unfolding rule spec_value_rule
kept-spec_value t (k.Mark m.Question) e = rw e (inr refl)
kept-spec_value t _ e = rw e (inr refl)

kept-more_texts : (t : Placed) (kind_is : Kind) → kind t ≡ kind_is → Kept f.more_texts (rule f.more_texts None) (rule f.more_texts (Some t))
unfolding rule more_texts_rule
kept-more_texts t (k.Mark m.Comma) e = rw e (inr refl)
kept-more_texts t _ e = rw e (inl refl)

kept-block : (t : Placed) (kind_is : Kind) → kind t ≡ kind_is → Kept f.block (rule f.block None) (rule f.block (Some t))
unfolding rule block_rule
kept-block t kind_is e = inr refl

kept-declared : (t : Placed) (kind_is : Kind) → kind t ≡ kind_is → Kept f.declared (rule f.declared None) (rule f.declared (Some t))
unfolding rule declared_rule begins_decl begins_type
kept-declared t k.Macro e = rw e (inr refl)
kept-declared t k.Static e = rw e (inr refl)
kept-declared t k.Ram e = rw e (inr refl)
kept-declared t k.Rom e = rw e (inr refl)
kept-declared t k.Signal e = rw e (inr refl)
kept-declared t k.Chan e = rw e (inr refl)
kept-declared t k.Unsigned e = rw e (inr refl)
kept-declared t k.Signed e = rw e (inr refl)
kept-declared t k.Int e = rw e (inr refl)
kept-declared t _ e = rw e (inl refl)

kept-stmts : (t : Placed) (kind_is : Kind) → kind t ≡ kind_is → Kept f.stmts (rule f.stmts None) (rule f.stmts (Some t))
unfolding rule stmts_rule begins_stmt is_name
kept-stmts t (k.Mark m.Semicolon) e = rw e (inr refl)
kept-stmts t (k.Mark m.BraceOpen) e = rw e (inr refl)
kept-stmts t (k.Mark m.Increment) e = rw e (inr refl)
kept-stmts t (k.Mark m.Decrement) e = rw e (inr refl)
kept-stmts t k.Seq e = rw e (inr refl)
kept-stmts t k.Par e = rw e (inr refl)
kept-stmts t k.Delay e = rw e (inr refl)
kept-stmts t k.If e = rw e (inr refl)
kept-stmts t k.IfSelect e = rw e (inr refl)
kept-stmts t k.While e = rw e (inr refl)
kept-stmts t k.Do e = rw e (inr refl)
kept-stmts t k.For e = rw e (inr refl)
kept-stmts t k.Switch e = rw e (inr refl)
kept-stmts t k.Prialt e = rw e (inr refl)
kept-stmts t k.Main e = rw e (inr refl)
kept-stmts t k.Clock e = rw e (inr refl)
kept-stmts t k.Family e = rw e (inr refl)
kept-stmts t k.Part e = rw e (inr refl)
kept-stmts t k.Expr e = rw e (inr refl)
kept-stmts t k.Proc e = rw e (inr refl)
kept-stmts t k.BusIn e = rw e (inr refl)
kept-stmts t k.BusOut e = rw e (inr refl)
kept-stmts t k.Name e = rw e (inr refl)
kept-stmts t _ e = rw e (inl refl)

kept-stmt : (t : Placed) (kind_is : Kind) → kind t ≡ kind_is → Kept f.stmt (rule f.stmt None) (rule f.stmt (Some t))
unfolding rule stmt_rule is_name
kept-stmt t (k.Mark m.Question) e = rw e (inr refl)
kept-stmt t _ e = rw e (inr refl)

kept-order_tail : (o : Order) (t : Placed) (kind_is : Kind) → kind t ≡ kind_is → Kept (f.order_tail o) (rule (f.order_tail o) None) (rule (f.order_tail o) (Some t))
unfolding rule order_tail_rule
kept-order_tail o t (k.Mark m.Question) e = rw e (inr refl)
kept-order_tail o t _ e = rw e (inr refl)

kept-name_stmt_tail : (t : Placed) (kind_is : Kind) → kind t ≡ kind_is → Kept f.name_stmt_tail (rule f.name_stmt_tail None) (rule f.name_stmt_tail (Some t))
unfolding rule name_stmt_tail_rule
kept-name_stmt_tail t (k.Mark m.Question) e = rw e (inr refl)
kept-name_stmt_tail t _ e = rw e (inr refl)

kept-else_tail : (t : Placed) (kind_is : Kind) → kind t ≡ kind_is → Kept f.else_tail (rule f.else_tail None) (rule f.else_tail (Some t))
unfolding rule else_tail_rule
kept-else_tail t k.Else e = rw e (inr refl)
kept-else_tail t _ e = rw e (inl refl)

kept-simple : (t : Placed) (kind_is : Kind) → kind t ≡ kind_is → Kept f.simple (rule f.simple None) (rule f.simple (Some t))
unfolding rule simple_rule
kept-simple t (k.Mark m.Question) e = rw e (inr refl)
kept-simple t _ e = rw e (inr refl)

kept-simple_tail : (t : Placed) (kind_is : Kind) → kind t ≡ kind_is → Kept f.simple_tail (rule f.simple_tail None) (rule f.simple_tail (Some t))
unfolding rule simple_tail_rule
kept-simple_tail t (k.Mark m.Question) e = rw e (inr refl)
kept-simple_tail t _ e = rw e (inr refl)

kept-opt_simple : (t : Placed) (kind_is : Kind) → kind t ≡ kind_is → Kept f.opt_simple (rule f.opt_simple None) (rule f.opt_simple (Some t))
unfolding rule opt_simple_rule
kept-opt_simple t (k.Mark m.Semicolon) e = rw e (inl refl)
kept-opt_simple t (k.Mark m.ParenClose) e = rw e (inl refl)
kept-opt_simple t _ e = rw e (inr refl)

kept-opt_expr : (t : Placed) (kind_is : Kind) → kind t ≡ kind_is → Kept f.opt_expr (rule f.opt_expr None) (rule f.opt_expr (Some t))
unfolding rule opt_expr_rule
kept-opt_expr t (k.Mark m.Semicolon) e = rw e (inl refl)
kept-opt_expr t _ e = rw e (inr refl)

kept-target : (t : Placed) (kind_is : Kind) → kind t ≡ kind_is → Kept f.target (rule f.target None) (rule f.target (Some t))
unfolding rule target_rule
kept-target t kind_is e = inr refl

kept-index : (t : Placed) (kind_is : Kind) → kind t ≡ kind_is → Kept f.index (rule f.index None) (rule f.index (Some t))
unfolding rule index_rule
kept-index t (k.Mark m.BracketOpen) e = rw e (inr refl)
kept-index t _ e = rw e (inl refl)

kept-assign : (t : Placed) (kind_is : Kind) → kind t ≡ kind_is → Kept f.assign (rule f.assign None) (rule f.assign (Some t))
unfolding rule assign_rule
kept-assign t (k.Mark m.Question) e = rw e (inr refl)
kept-assign t _ e = rw e (inr refl)

kept-arms : (b : Bool) (t : Placed) (kind_is : Kind) → kind t ≡ kind_is → Kept (f.arms b) (rule (f.arms b) None) (rule (f.arms b) (Some t))
unfolding rule arms_rule
kept-arms true t k.Case e = rw e (inr refl)
kept-arms true t _ e = rw e (inl refl)
kept-arms false t k.Case e = rw e (inr refl)
kept-arms false t k.Default e = rw e (inr refl)
kept-arms false t _ e = rw e (inl refl)

kept-arm_tail : (b : Bool) (t : Placed) (kind_is : Kind) → kind t ≡ kind_is → Kept (f.arm_tail b) (rule (f.arm_tail b) None) (rule (f.arm_tail b) (Some t))
unfolding rule arm_tail_rule
kept-arm_tail true t k.Case e = rw e (inr refl)
kept-arm_tail true t _ e = rw e (inl refl)
kept-arm_tail false t k.Case e = rw e (inr refl)
kept-arm_tail false t k.Default e = rw e (inr refl)
kept-arm_tail false t _ e = rw e (inl refl)

kept-arm_end : (b : Bool) (t : Placed) (kind_is : Kind) → kind t ≡ kind_is → Kept (f.arm_end b) (rule (f.arm_end b) None) (rule (f.arm_end b) (Some t))
unfolding rule arm_end_rule
kept-arm_end b t k.Break e = rw e (inr refl)
kept-arm_end b t _ e = rw e (inl refl)

kept-cases : (t : Placed) (kind_is : Kind) → kind t ≡ kind_is → Kept f.cases (rule f.cases None) (rule f.cases (Some t))
unfolding rule cases_rule
kept-cases t (k.Mark m.Question) e = rw e (inr refl)
kept-cases t _ e = rw e (inr refl)

kept-offer : (t : Placed) (kind_is : Kind) → kind t ≡ kind_is → Kept f.offer (rule f.offer None) (rule f.offer (Some t))
unfolding rule offer_rule
kept-offer t (k.Mark m.Question) e = rw e (inr refl)
kept-offer t _ e = rw e (inr refl)

kept-case_end : (t : Placed) (kind_is : Kind) → kind t ≡ kind_is → Kept f.case_end (rule f.case_end None) (rule f.case_end (Some t))
unfolding rule case_end_rule
kept-case_end t k.Break e = rw e (inr refl)
kept-case_end t _ e = rw e (inl refl)

kept-more_cases : (t : Placed) (kind_is : Kind) → kind t ≡ kind_is → Kept f.more_cases (rule f.more_cases None) (rule f.more_cases (Some t))
unfolding rule more_cases_rule
kept-more_cases t k.Case e = rw e (inr refl)
kept-more_cases t k.Default e = rw e (inr refl)
kept-more_cases t _ e = rw e (inl refl)

kept-other_end : (t : Placed) (kind_is : Kind) → kind t ≡ kind_is → Kept f.other_end (rule f.other_end None) (rule f.other_end (Some t))
unfolding rule other_end_rule
kept-other_end t k.Break e = rw e (inr refl)
kept-other_end t _ e = rw e (inl refl)

kept-program : (t : Placed) (kind_is : Kind) → kind t ≡ kind_is → Kept f.program (rule f.program None) (rule f.program (Some t))
unfolding rule program_rule
kept-program t kind_is e = inl refl

kept-items : (t : Placed) (kind_is : Kind) → kind t ≡ kind_is → Kept f.items (rule f.items None) (rule f.items (Some t))
unfolding rule items_rule
kept-items t kind_is e = inr refl

kept-item : (t : Placed) (kind_is : Kind) → kind t ≡ kind_is → Kept f.item (rule f.item None) (rule f.item (Some t))
unfolding rule item_rule begins_decl begins_type
kept-item t (k.Mark m.Question) e = rw e (inr refl)
kept-item t _ e = rw e (inr refl)

kept-set_tail : (t : Placed) (kind_is : Kind) → kind t ≡ kind_is → Kept f.set_tail (rule f.set_tail None) (rule f.set_tail (Some t))
unfolding rule set_tail_rule
kept-set_tail t (k.Mark m.Question) e = rw e (inr refl)
kept-set_tail t _ e = rw e (inr refl)

kept-opt_void : (t : Placed) (kind_is : Kind) → kind t ≡ kind_is → Kept f.opt_void (rule f.opt_void None) (rule f.opt_void (Some t))
unfolding rule opt_void_rule
kept-opt_void t k.Void e = rw e (inr refl)
kept-opt_void t _ e = rw e (inl refl)

kept-interface_tail : (t : Placed) (kind_is : Kind) → kind t ≡ kind_is → Kept f.interface_tail (rule f.interface_tail None) (rule f.interface_tail (Some t))
unfolding rule interface_tail_rule
kept-interface_tail t (k.Mark m.Question) e = rw e (inr refl)
kept-interface_tail t _ e = rw e (inr refl)

kept-macro : (t : Placed) (kind_is : Kind) → kind t ≡ kind_is → Kept f.macro (rule f.macro None) (rule f.macro (Some t))
unfolding rule macro_rule
kept-macro t kind_is e = inr refl

kept-macro_tail : (t : Placed) (kind_is : Kind) → kind t ≡ kind_is → Kept f.macro_tail (rule f.macro_tail None) (rule f.macro_tail (Some t))
unfolding rule macro_tail_rule
kept-macro_tail t (k.Mark m.Question) e = rw e (inr refl)
kept-macro_tail t _ e = rw e (inr refl)

kept-params : (t : Placed) (kind_is : Kind) → kind t ≡ kind_is → Kept f.params (rule f.params None) (rule f.params (Some t))
unfolding rule params_rule
kept-params t kind_is e = inr refl

kept-opt_params : (t : Placed) (kind_is : Kind) → kind t ≡ kind_is → Kept f.opt_params (rule f.opt_params None) (rule f.opt_params (Some t))
unfolding rule opt_params_rule
kept-opt_params t (k.Mark m.ParenOpen) e = rw e (inr refl)
kept-opt_params t _ e = rw e (inl refl)

kept-names : (t : Placed) (kind_is : Kind) → kind t ≡ kind_is → Kept f.names (rule f.names None) (rule f.names (Some t))
unfolding rule names_rule
kept-names t (k.Mark m.ParenClose) e = rw e (inl refl)
kept-names t _ e = rw e (inr refl)

kept-all : (x : Form) (t : Placed) → Kept x (rule x None) (rule x (Some t))
kept-all f.name t = kept-name t (kind t) refl
kept-all f.text t = kept-text t (kind t) refl
kept-all f.expr t = kept-expr t (kind t) refl
kept-all f.choice_tail t = kept-choice_tail t (kind t) refl
kept-all (f.binary n) t = kept-binary n t (kind t) refl
kept-all (f.binary_tail n) t = kept-binary_tail n t (kind t) refl
kept-all f.unary t = kept-unary t (kind t) refl
kept-all f.paren_tail t = kept-paren_tail t (kind t) refl
kept-all f.primary t = kept-primary t (kind t) refl
kept-all f.name_tail t = kept-name_tail t (kind t) refl
kept-all f.args t = kept-args t (kind t) refl
kept-all f.more_exprs t = kept-more_exprs t (kind t) refl
kept-all f.postfix_tail t = kept-postfix_tail t (kind t) refl
kept-all f.bits_tail t = kept-bits_tail t (kind t) refl
kept-all f.type t = kept-type t (kind t) refl
kept-all f.unsigned_tail t = kept-unsigned_tail t (kind t) refl
kept-all f.signed_tail t = kept-signed_tail t (kind t) refl
kept-all f.size t = kept-size t (kind t) refl
kept-all (f.decl b) t = kept-decl b t (kind t) refl
kept-all f.static_tail t = kept-static_tail t (kind t) refl
kept-all (f.vars_tail b) t = kept-vars_tail b t (kind t) refl
kept-all (f.more_vars b) t = kept-more_vars b t (kind t) refl
kept-all (f.var b) t = kept-var b t (kind t) refl
kept-all (f.var_tail b) t = kept-var_tail b t (kind t) refl
kept-all (f.memories_tail i) t = kept-memories_tail i t (kind t) refl
kept-all (f.mem i) t = kept-mem i t (kind t) refl
kept-all (f.more_mems i) t = kept-more_mems i t (kind t) refl
kept-all (f.mem_init i) t = kept-mem_init i t (kind t) refl
kept-all f.boxed t = kept-boxed t (kind t) refl
kept-all f.sig t = kept-sig t (kind t) refl
kept-all f.sig_tail t = kept-sig_tail t (kind t) refl
kept-all f.more_sigs t = kept-more_sigs t (kind t) refl
kept-all f.more_names t = kept-more_names t (kind t) refl
kept-all f.with t = kept-with t (kind t) refl
kept-all f.spec t = kept-spec t (kind t) refl
kept-all f.more_specs t = kept-more_specs t (kind t) refl
kept-all f.spec_value t = kept-spec_value t (kind t) refl
kept-all f.more_texts t = kept-more_texts t (kind t) refl
kept-all f.block t = kept-block t (kind t) refl
kept-all f.declared t = kept-declared t (kind t) refl
kept-all f.stmts t = kept-stmts t (kind t) refl
kept-all f.stmt t = kept-stmt t (kind t) refl
kept-all (f.order_tail o) t = kept-order_tail o t (kind t) refl
kept-all f.name_stmt_tail t = kept-name_stmt_tail t (kind t) refl
kept-all f.else_tail t = kept-else_tail t (kind t) refl
kept-all f.simple t = kept-simple t (kind t) refl
kept-all f.simple_tail t = kept-simple_tail t (kind t) refl
kept-all f.opt_simple t = kept-opt_simple t (kind t) refl
kept-all f.opt_expr t = kept-opt_expr t (kind t) refl
kept-all f.target t = kept-target t (kind t) refl
kept-all f.index t = kept-index t (kind t) refl
kept-all f.assign t = kept-assign t (kind t) refl
kept-all (f.arms b) t = kept-arms b t (kind t) refl
kept-all (f.arm_tail b) t = kept-arm_tail b t (kind t) refl
kept-all (f.arm_end b) t = kept-arm_end b t (kind t) refl
kept-all f.cases t = kept-cases t (kind t) refl
kept-all f.offer t = kept-offer t (kind t) refl
kept-all f.case_end t = kept-case_end t (kind t) refl
kept-all f.more_cases t = kept-more_cases t (kind t) refl
kept-all f.other_end t = kept-other_end t (kind t) refl
kept-all f.program t = kept-program t (kind t) refl
kept-all f.items t = kept-items t (kind t) refl
kept-all f.item t = kept-item t (kind t) refl
kept-all f.set_tail t = kept-set_tail t (kind t) refl
kept-all f.opt_void t = kept-opt_void t (kind t) refl
kept-all f.interface_tail t = kept-interface_tail t (kind t) refl
kept-all f.macro t = kept-macro t (kind t) refl
kept-all f.macro_tail t = kept-macro_tail t (kind t) refl
kept-all f.params t = kept-params t (kind t) refl
kept-all f.opt_params t = kept-opt_params t (kind t) refl
kept-all f.names t = kept-names t (kind t) refl

nothing-at_end : (x : Form) → may_be_empty x ≡ false → rule x None ≡ None
unfolding rule name_rule text_rule expr_rule choice_tail_rule binary_rule binary_tail_rule unary_rule paren_tail_rule primary_rule name_tail_rule args_rule more_exprs_rule postfix_tail_rule bits_tail_rule type_rule unsigned_tail_rule signed_tail_rule size_rule decl_rule static_tail_rule vars_tail_rule more_vars_rule var_rule var_tail_rule memories_tail_rule mem_rule more_mems_rule mem_init_rule boxed_rule sig_rule sig_tail_rule more_sigs_rule more_names_rule with_rule spec_rule more_specs_rule spec_value_rule more_texts_rule block_rule declared_rule stmts_rule stmt_rule order_tail_rule name_stmt_tail_rule else_tail_rule simple_rule simple_tail_rule opt_simple_rule opt_expr_rule target_rule index_rule assign_rule arms_rule arm_tail_rule arm_end_rule cases_rule offer_rule case_end_rule more_cases_rule other_end_rule program_rule items_rule item_rule set_tail_rule opt_void_rule interface_tail_rule macro_rule macro_tail_rule params_rule opt_params_rule names_rule
nothing-at_end f.choice_tail is = absurd cc
nothing-at_end (f.binary_tail x) is = absurd cc
nothing-at_end f.name_tail is = absurd cc
nothing-at_end f.args is = absurd cc
nothing-at_end f.more_exprs is = absurd cc
nothing-at_end f.postfix_tail is = absurd cc
nothing-at_end (f.more_vars x) is = absurd cc
nothing-at_end (f.var_tail x) is = absurd cc
nothing-at_end (f.more_mems x) is = absurd cc
nothing-at_end (f.mem_init Always) is = refl
nothing-at_end (f.mem_init i) is = absurd cc
nothing-at_end f.sig_tail is = absurd cc
nothing-at_end f.more_sigs is = absurd cc
nothing-at_end f.more_names is = absurd cc
nothing-at_end f.with is = absurd cc
nothing-at_end f.more_specs is = absurd cc
nothing-at_end f.more_texts is = absurd cc
nothing-at_end f.declared is = absurd cc
nothing-at_end f.stmts is = absurd cc
nothing-at_end f.else_tail is = absurd cc
nothing-at_end f.opt_simple is = absurd cc
nothing-at_end f.opt_expr is = absurd cc
nothing-at_end f.index is = absurd cc
nothing-at_end (f.arms x) is = absurd cc
nothing-at_end (f.arm_tail x) is = absurd cc
nothing-at_end (f.arm_end x) is = absurd cc
nothing-at_end f.case_end is = absurd cc
nothing-at_end f.more_cases is = absurd cc
nothing-at_end f.other_end is = absurd cc
nothing-at_end f.program is = absurd cc
nothing-at_end f.items is = absurd cc
nothing-at_end f.opt_void is = absurd cc
nothing-at_end f.opt_params is = absurd cc
nothing-at_end f.names is = absurd cc
nothing-at_end _ is = refl

empty-all : (x : Form) → may_be_empty x ≡ true → (v : Gives x) × Reads grammar x [] v []
unfolding rule choice_tail_rule binary_tail_rule name_tail_rule args_rule more_exprs_rule postfix_tail_rule more_vars_rule var_tail_rule more_mems_rule mem_init_rule sig_tail_rule more_sigs_rule more_names_rule with_rule more_specs_rule more_texts_rule declared_rule stmts_rule else_tail_rule opt_simple_rule opt_expr_rule index_rule arms_rule arm_tail_rule arm_end_rule case_end_rule more_cases_rule other_end_rule program_rule items_rule opt_void_rule opt_params_rule names_rule
empty-all f.choice_tail is = (_, by _ tt refl done refl)
empty-all (f.binary_tail x) is = (_, by _ tt refl done refl)
empty-all f.name_tail is = (_, by _ tt refl done refl)
empty-all f.args is = (_, by _ tt refl done refl)
empty-all f.more_exprs is = (_, by _ tt refl done refl)
empty-all f.postfix_tail is = (_, by _ tt refl done refl)
empty-all (f.more_vars x) is = (_, by _ tt refl done refl)
empty-all (f.var_tail x) is = (_, by _ tt refl done refl)
empty-all (f.more_mems x) is = (_, by _ tt refl done refl)
empty-all (f.mem_init Always) is = absurd cc
empty-all (f.mem_init Never) is = (_, by _ tt refl done refl)
empty-all (f.mem_init Maybe) is = (_, by _ tt refl done refl)
empty-all f.sig_tail is = (_, by _ tt refl done refl)
empty-all f.more_sigs is = (_, by _ tt refl done refl)
empty-all f.more_names is = (_, by _ tt refl done refl)
empty-all f.with is = (_, by _ tt refl done refl)
empty-all f.more_specs is = (_, by _ tt refl done refl)
empty-all f.more_texts is = (_, by _ tt refl done refl)
empty-all f.declared is = (_, by _ tt refl done refl)
empty-all f.stmts is = (_, by _ tt refl done refl)
empty-all f.else_tail is = (_, by _ tt refl done refl)
empty-all f.opt_simple is = (_, by _ tt refl done refl)
empty-all f.opt_expr is = (_, by _ tt refl done refl)
empty-all f.index is = (_, by _ tt refl done refl)
empty-all (f.arms x) is = (_, by _ tt refl done refl)
empty-all (f.arm_tail x) is = (_, by _ (_, (_, tt)) refl (part [] (by _ tt refl done refl) (part [] (by _ tt refl done refl) done)) refl)
empty-all (f.arm_end x) is = (_, by _ tt refl done refl)
empty-all f.case_end is = (_, by _ tt refl done refl)
empty-all f.more_cases is = (_, by _ tt refl done refl)
empty-all f.other_end is = (_, by _ tt refl done refl)
empty-all f.program is = (_, by _ (_, tt) refl (part [] (by _ tt refl done refl) done) refl)
empty-all f.items is = (_, by _ tt refl done refl)
empty-all f.opt_void is = (_, by _ tt refl done refl)
empty-all f.opt_params is = (_, by _ tt refl done refl)
empty-all f.names is = (_, by _ tt refl done refl)
empty-all _ is = absurd cc

not-is : (b : Bool) → not b ≡ true → b ≡ true → ⊥
not-is true full empty = absurd cc
not-is false full empty = absurd cc

never-none : {A : Type 0} {o : Option A} {a : A} → o ≡ None → o ≡ Some a → ⊥
never-none p q = absurd cc

kept-by : (x : Form) (r : Rule Kind Gives x) (at_end rules : Rules x) → rules ≡ Some r → row_may may_be_empty r.row ≡ true → Kept x at_end rules → at_end ≡ Some r
kept-by x r at_end rules e empty (inl same) = cc
kept-by x r at_end rules e empty (inr full) = absurd (not-is (row_may may_be_empty r.row) (rw e at full) empty)

pub knows_empty : MayBeEmpty grammar may_be_empty
knows_empty = record {
  empty = empty-all;
  full = λ x r is e. absurd (never-none (nothing-at_end x is) e);
  kept = λ x t r e empty. kept-by x r (rule x None) (rule x (Some t)) e empty (kept-all x t);
}
