-- The grammar of the language: the rule of each form by the token at its front, and what it is for tokens to be a source.
use Rattle.std.specs.Prelude.{Option}
use Rattle.hc_lex.specs.declared.token.Placed.{Placed}
use Rattle.hc_grammar.specs.declared.kind.Kind.{Kind}
use Rattle.hc_grammar.specs.Kind.{kind}
use Rattle.hc_grammar.specs.Table as table
use Rattle.hc_grammar.specs.Form as f
use Rattle.hc_grammar.specs.Form.{Form, Gives}
use Rattle.hc_grammar.specs.Expression.{Rules, name_rule, text_rule, expr_rule, choice_tail_rule, binary_rule, binary_tail_rule, unary_rule, paren_tail_rule, primary_rule, name_tail_rule, args_rule, more_exprs_rule, postfix_tail_rule, bits_tail_rule, type_rule, unsigned_tail_rule, signed_tail_rule, size_rule}
use Rattle.hc_grammar.specs.Declaration.{decl_rule, static_tail_rule, vars_tail_rule, more_vars_rule, var_rule, var_tail_rule, memories_tail_rule, mem_rule, more_mems_rule, mem_init_rule, boxed_rule, sig_rule, sig_tail_rule, more_sigs_rule, more_names_rule, with_rule, spec_rule, more_specs_rule, spec_value_rule, more_texts_rule}
use Rattle.hc_grammar.specs.Statement.{block_rule, declared_rule, stmts_rule, stmt_rule, order_tail_rule, name_stmt_tail_rule, else_tail_rule, simple_rule, simple_tail_rule, opt_simple_rule, opt_expr_rule, target_rule, index_rule, assign_rule, arms_rule, arm_tail_rule, arm_end_rule, cases_rule, offer_rule, case_end_rule, more_cases_rule, other_end_rule}
use Rattle.hc_grammar.specs.Item.{program_rule, items_rule, item_rule, set_tail_rule, opt_void_rule, interface_tail_rule, macro_rule, macro_tail_rule, params_rule, opt_params_rule, names_rule}

unfoldable pub rule : (x : Form) → Option Placed → Rules x
rule f.name = name_rule
rule f.text = text_rule
rule f.expr = expr_rule
rule f.choice_tail = choice_tail_rule
rule (f.binary x) = binary_rule x
rule (f.binary_tail x) = binary_tail_rule x
rule f.unary = unary_rule
rule f.paren_tail = paren_tail_rule
rule f.primary = primary_rule
rule f.name_tail = name_tail_rule
rule f.args = args_rule
rule f.more_exprs = more_exprs_rule
rule f.postfix_tail = postfix_tail_rule
rule f.bits_tail = bits_tail_rule
rule f.type = type_rule
rule f.unsigned_tail = unsigned_tail_rule
rule f.signed_tail = signed_tail_rule
rule f.size = size_rule
rule (f.decl x) = decl_rule x
rule f.static_tail = static_tail_rule
rule (f.vars_tail x) = vars_tail_rule x
rule (f.more_vars x) = more_vars_rule x
rule (f.var x) = var_rule x
rule (f.var_tail x) = var_tail_rule x
rule (f.memories_tail x) = memories_tail_rule x
rule (f.mem x) = mem_rule x
rule (f.more_mems x) = more_mems_rule x
rule (f.mem_init x) = mem_init_rule x
rule f.boxed = boxed_rule
rule f.sig = sig_rule
rule f.sig_tail = sig_tail_rule
rule f.more_sigs = more_sigs_rule
rule f.more_names = more_names_rule
rule f.with = with_rule
rule f.spec = spec_rule
rule f.more_specs = more_specs_rule
rule f.spec_value = spec_value_rule
rule f.more_texts = more_texts_rule
rule f.block = block_rule
rule f.declared = declared_rule
rule f.stmts = stmts_rule
rule f.stmt = stmt_rule
rule (f.order_tail x) = order_tail_rule x
rule f.name_stmt_tail = name_stmt_tail_rule
rule f.else_tail = else_tail_rule
rule f.simple = simple_rule
rule f.simple_tail = simple_tail_rule
rule f.opt_simple = opt_simple_rule
rule f.opt_expr = opt_expr_rule
rule f.target = target_rule
rule f.index = index_rule
rule f.assign = assign_rule
rule (f.arms x) = arms_rule x
rule (f.arm_tail x) = arm_tail_rule x
rule (f.arm_end x) = arm_end_rule x
rule f.cases = cases_rule
rule f.offer = offer_rule
rule f.case_end = case_end_rule
rule f.more_cases = more_cases_rule
rule f.other_end = other_end_rule
rule f.program = program_rule
rule f.items = items_rule
rule f.item = item_rule
rule f.set_tail = set_tail_rule
rule f.opt_void = opt_void_rule
rule f.interface_tail = interface_tail_rule
rule f.macro = macro_rule
rule f.macro_tail = macro_tail_rule
rule f.params = params_rule
rule f.opt_params = opt_params_rule
rule f.names = names_rule

abbrev pub grammar : table.Grammar
grammar = record { Token = Placed; Kind = Kind; kind = kind; Form = Form; Gives = Gives; rule = rule }
