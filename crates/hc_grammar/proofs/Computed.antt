-- Reading a form of the language from concrete tokens by computing.
use Rattle.std.proofs.Common.{List}
use Rattle.hc_lex.specs.declared.token.Placed.{Placed}
use Rattle.hc_grammar.specs.Kind.{kind, token_kind, word_kind, reserved, quoted, is_name, bytes_of, number_of}
use Rattle.hc_grammar.specs.Order.{number, mark_number}
use Rattle.hc_grammar.specs.Form.{Form}
use Rattle.hc_grammar.specs.Expression.{name_rule, text_rule, expr_rule, choice_tail_rule, binary_rule, binary_tail_rule, unary_rule, paren_tail_rule, primary_rule, name_tail_rule, args_rule, more_exprs_rule, postfix_tail_rule, bits_tail_rule, type_rule, unsigned_tail_rule, signed_tail_rule, size_rule, binary_op, unary_op, begins_type}
use Rattle.hc_grammar.specs.Declaration.{decl_rule, static_tail_rule, vars_tail_rule, more_vars_rule, var_rule, var_tail_rule, memories_tail_rule, mem_rule, more_mems_rule, mem_init_rule, boxed_rule, sig_rule, sig_tail_rule, more_sigs_rule, more_names_rule, with_rule, spec_rule, more_specs_rule, spec_value_rule, more_texts_rule}
use Rattle.hc_grammar.specs.Statement.{block_rule, declared_rule, stmts_rule, stmt_rule, order_tail_rule, name_stmt_tail_rule, else_tail_rule, simple_rule, simple_tail_rule, opt_simple_rule, opt_expr_rule, target_rule, index_rule, assign_rule, arms_rule, arm_tail_rule, arm_end_rule, cases_rule, offer_rule, case_end_rule, more_cases_rule, other_end_rule, begins_decl, begins_stmt}
use Rattle.hc_grammar.specs.Item.{program_rule, items_rule, item_rule, set_tail_rule, opt_void_rule, interface_tail_rule, macro_rule, macro_tail_rule, params_rule, opt_params_rule, names_rule}
use Rattle.hc_grammar.specs.Grammar.{grammar, rule}
use Rattle.hc_grammar.proofs.Follow.{decide}
use Rattle.hc_grammar.proofs.Tried.{Found, try}

-- What names this in its `unfolding` line opens the whole table.
unfoldable pub tried : (x : Form) (ts : List Placed) → Found grammar decide x ts
unfolding rule name_rule text_rule expr_rule choice_tail_rule binary_rule binary_tail_rule unary_rule paren_tail_rule primary_rule name_tail_rule args_rule more_exprs_rule postfix_tail_rule bits_tail_rule type_rule unsigned_tail_rule signed_tail_rule size_rule decl_rule static_tail_rule vars_tail_rule more_vars_rule var_rule var_tail_rule memories_tail_rule mem_rule more_mems_rule mem_init_rule boxed_rule sig_rule sig_tail_rule more_sigs_rule more_names_rule with_rule spec_rule more_specs_rule spec_value_rule more_texts_rule block_rule declared_rule stmts_rule stmt_rule order_tail_rule name_stmt_tail_rule else_tail_rule simple_rule simple_tail_rule opt_simple_rule opt_expr_rule target_rule index_rule assign_rule arms_rule arm_tail_rule arm_end_rule cases_rule offer_rule case_end_rule more_cases_rule other_end_rule program_rule items_rule item_rule set_tail_rule opt_void_rule interface_tail_rule macro_rule macro_tail_rule params_rule opt_params_rule names_rule binary_op unary_op begins_type begins_decl begins_stmt is_name kind token_kind word_kind reserved quoted bytes_of number_of number mark_number
tried x ts = try grammar decide 300 x ts
