-- Before a token that may follow it a form that may be empty is empty, as it is at the end.
use Rattle.std.proofs.Common.{◌≡◌, ℕ, Bool, true, false, Some, None, refl, ap}
use Rattle.hc_lex.specs.declared.mark.Mark.TheVariants as m
use Rattle.hc_lex.specs.declared.token.Placed.{Placed}
use Rattle.hc_grammar.specs.declared.kind.Kind.{Kind}
use Rattle.hc_grammar.specs.declared.kind.Kind.TheVariants as k
use Rattle.hc_grammar.specs.Kind.{kind, is_name}
use Rattle.hc_grammar.specs.Order.{number, mark_number}
use Rattle.hc_grammar.specs.Form as f
use Rattle.hc_grammar.specs.Form.{Form, Gives, Initial, Never, Maybe, Always}
use Rattle.hc_grammar.specs.Expression.{choice_tail_rule, binary_tail_rule, name_tail_rule, args_rule, more_exprs_rule, postfix_tail_rule, binary_op, begins_type}
use Rattle.hc_grammar.specs.Declaration.{more_vars_rule, var_tail_rule, more_mems_rule, mem_init_rule, sig_tail_rule, more_sigs_rule, more_names_rule, with_rule, more_specs_rule, more_texts_rule}
use Rattle.hc_grammar.specs.Statement.{declared_rule, stmts_rule, else_tail_rule, opt_simple_rule, opt_expr_rule, index_rule, arms_rule, arm_tail_rule, arm_end_rule, case_end_rule, more_cases_rule, other_end_rule, begins_decl, begins_stmt}
use Rattle.hc_grammar.specs.Item.{program_rule, items_rule, opt_void_rule, opt_params_rule, names_rule}
use Rattle.hc_grammar.specs.Grammar.{rule}
use Rattle.hc_grammar.specs.LastEmpty.{may_be_empty}
use Rattle.hc_grammar.proofs.Follow.{allows}
use Rattle.hc_grammar.proofs.Shortest.{follow}

barred : {A : Type 0} → false ≡ true → A
barred h = absurd cc

-- a token that may follow
abbrev May : Form → Kind → Type 0
May x kind_is = allows (follow x) (Some kind_is) ≡ true

abbrev Clear : Form → Placed → Type 0
Clear x t = rule x (Some t) ≡ rule x None

clear-choice_tail : (t : Placed) (kind_is : Kind) → kind t ≡ kind_is → May f.choice_tail kind_is → Clear f.choice_tail t
unfolding rule choice_tail_rule number mark_number
clear-choice_tail t (k.Mark m.Question) e h = barred h
clear-choice_tail t _ e h = rw e refl

clear-tail : (n : ℕ) (t : Placed) → binary_op (kind t) ≡ None → Clear (f.binary_tail n) t
unfolding rule binary_tail_rule
clear-tail n t e = rw e refl

clear-binary_tail : (n : ℕ) (t : Placed) (kind_is : Kind) → kind t ≡ kind_is → May (f.binary_tail n) kind_is → Clear (f.binary_tail n) t
unfolding binary_op number mark_number
clear-binary_tail n t (k.Mark m.Take) e h = barred h
clear-binary_tail n t (k.Mark m.Drop) e h = barred h
clear-binary_tail n t (k.Mark m.Star) e h = barred h
clear-binary_tail n t (k.Mark m.Slash) e h = barred h
clear-binary_tail n t (k.Mark m.Percent) e h = barred h
clear-binary_tail n t (k.Mark m.Plus) e h = barred h
clear-binary_tail n t (k.Mark m.Minus) e h = barred h
clear-binary_tail n t (k.Mark m.At) e h = barred h
clear-binary_tail n t (k.Mark m.ShiftLeft) e h = barred h
clear-binary_tail n t (k.Mark m.ShiftRight) e h = barred h
clear-binary_tail n t (k.Mark m.Less) e h = barred h
clear-binary_tail n t (k.Mark m.LessEqual) e h = barred h
clear-binary_tail n t (k.Mark m.Greater) e h = barred h
clear-binary_tail n t (k.Mark m.GreaterEqual) e h = barred h
clear-binary_tail n t (k.Mark m.Equal) e h = barred h
clear-binary_tail n t (k.Mark m.NotEqual) e h = barred h
clear-binary_tail n t (k.Mark m.And) e h = barred h
clear-binary_tail n t (k.Mark m.Xor) e h = barred h
clear-binary_tail n t (k.Mark m.Or) e h = barred h
clear-binary_tail n t (k.Mark m.AndAnd) e h = barred h
clear-binary_tail n t (k.Mark m.OrOr) e h = barred h
clear-binary_tail n t _ e h = clear-tail n t (ap binary_op e)

clear-name_tail : (t : Placed) (kind_is : Kind) → kind t ≡ kind_is → May f.name_tail kind_is → Clear f.name_tail t
unfolding rule name_tail_rule number mark_number
clear-name_tail t (k.Mark m.ParenOpen) e h = barred h
clear-name_tail t (k.Mark m.Dot) e h = barred h
clear-name_tail t _ e h = rw e refl

clear-args : (t : Placed) (kind_is : Kind) → kind t ≡ kind_is → May f.args kind_is → Clear f.args t
unfolding rule args_rule number mark_number
clear-args t (k.Mark m.ParenClose) e h = rw e refl
clear-args t _ e h = barred h

clear-more_exprs : (t : Placed) (kind_is : Kind) → kind t ≡ kind_is → May f.more_exprs kind_is → Clear f.more_exprs t
unfolding rule more_exprs_rule number mark_number
clear-more_exprs t (k.Mark m.Comma) e h = barred h
clear-more_exprs t _ e h = rw e refl

clear-postfix_tail : (t : Placed) (kind_is : Kind) → kind t ≡ kind_is → May f.postfix_tail kind_is → Clear f.postfix_tail t
unfolding rule postfix_tail_rule number mark_number
clear-postfix_tail t (k.Mark m.BracketOpen) e h = barred h
clear-postfix_tail t _ e h = rw e refl

clear-more_vars : (b : Bool) (t : Placed) (kind_is : Kind) → kind t ≡ kind_is → May (f.more_vars b) kind_is → Clear (f.more_vars b) t
unfolding rule more_vars_rule number mark_number
clear-more_vars b t (k.Mark m.Comma) e h = barred h
clear-more_vars b t _ e h = rw e refl

clear-var_tail : (b : Bool) (t : Placed) (kind_is : Kind) → kind t ≡ kind_is → May (f.var_tail b) kind_is → Clear (f.var_tail b) t
unfolding rule var_tail_rule number mark_number
clear-var_tail true t (k.Mark m.BracketOpen) e h = barred h
clear-var_tail true t (k.Mark m.Assign) e h = barred h
clear-var_tail true t _ e h = rw e refl
clear-var_tail false t (k.Mark m.BracketOpen) e h = barred h
clear-var_tail false t _ e h = rw e refl

clear-more_mems : (i : Initial) (t : Placed) (kind_is : Kind) → kind t ≡ kind_is → May (f.more_mems i) kind_is → Clear (f.more_mems i) t
unfolding rule more_mems_rule number mark_number
clear-more_mems i t (k.Mark m.Comma) e h = barred h
clear-more_mems i t _ e h = rw e refl

clear-mem_init_never : (t : Placed) → Clear (f.mem_init Never) t
unfolding rule mem_init_rule
clear-mem_init_never t = refl

clear-mem_init : (t : Placed) (kind_is : Kind) → kind t ≡ kind_is → May (f.mem_init Maybe) kind_is → Clear (f.mem_init Maybe) t
unfolding rule mem_init_rule number mark_number
clear-mem_init t (k.Mark m.Assign) e h = barred h
clear-mem_init t _ e h = rw e refl

clear-sig_tail : (t : Placed) (kind_is : Kind) → kind t ≡ kind_is → May f.sig_tail kind_is → Clear f.sig_tail t
unfolding rule sig_tail_rule number mark_number
clear-sig_tail t (k.Mark m.Assign) e h = barred h
clear-sig_tail t _ e h = rw e refl

clear-more_sigs : (t : Placed) (kind_is : Kind) → kind t ≡ kind_is → May f.more_sigs kind_is → Clear f.more_sigs t
unfolding rule more_sigs_rule number mark_number
clear-more_sigs t (k.Mark m.Comma) e h = barred h
clear-more_sigs t _ e h = rw e refl

clear-more_names : (t : Placed) (kind_is : Kind) → kind t ≡ kind_is → May f.more_names kind_is → Clear f.more_names t
unfolding rule more_names_rule number mark_number
clear-more_names t (k.Mark m.Comma) e h = barred h
clear-more_names t _ e h = rw e refl

clear-with : (t : Placed) (kind_is : Kind) → kind t ≡ kind_is → May f.with kind_is → Clear f.with t
unfolding rule with_rule number mark_number
clear-with t k.With e h = barred h
clear-with t _ e h = rw e refl

clear-more_specs : (t : Placed) (kind_is : Kind) → kind t ≡ kind_is → May f.more_specs kind_is → Clear f.more_specs t
unfolding rule more_specs_rule number mark_number
clear-more_specs t (k.Mark m.Comma) e h = barred h
clear-more_specs t _ e h = rw e refl

clear-more_texts : (t : Placed) (kind_is : Kind) → kind t ≡ kind_is → May f.more_texts kind_is → Clear f.more_texts t
unfolding rule more_texts_rule number mark_number
clear-more_texts t (k.Mark m.Comma) e h = barred h
clear-more_texts t _ e h = rw e refl

clear-declared : (t : Placed) (kind_is : Kind) → kind t ≡ kind_is → May f.declared kind_is → Clear f.declared t
unfolding rule declared_rule begins_decl begins_type number mark_number
clear-declared t k.Macro e h = barred h
clear-declared t k.Static e h = barred h
clear-declared t k.Ram e h = barred h
clear-declared t k.Rom e h = barred h
clear-declared t k.Signal e h = barred h
clear-declared t k.Chan e h = barred h
clear-declared t k.Unsigned e h = barred h
clear-declared t k.Signed e h = barred h
clear-declared t k.Int e h = barred h
clear-declared t _ e h = rw e refl

clear-stmts : (t : Placed) (kind_is : Kind) → kind t ≡ kind_is → May f.stmts kind_is → Clear f.stmts t
unfolding rule stmts_rule begins_stmt is_name number mark_number
clear-stmts t (k.Mark m.Semicolon) e h = barred h
clear-stmts t (k.Mark m.BraceOpen) e h = barred h
clear-stmts t (k.Mark m.Increment) e h = barred h
clear-stmts t (k.Mark m.Decrement) e h = barred h
clear-stmts t k.Seq e h = barred h
clear-stmts t k.Par e h = barred h
clear-stmts t k.Delay e h = barred h
clear-stmts t k.If e h = barred h
clear-stmts t k.IfSelect e h = barred h
clear-stmts t k.While e h = barred h
clear-stmts t k.Do e h = barred h
clear-stmts t k.For e h = barred h
clear-stmts t k.Switch e h = barred h
clear-stmts t k.Prialt e h = barred h
clear-stmts t k.Main e h = barred h
clear-stmts t k.Clock e h = barred h
clear-stmts t k.Family e h = barred h
clear-stmts t k.Part e h = barred h
clear-stmts t k.Expr e h = barred h
clear-stmts t k.Proc e h = barred h
clear-stmts t k.BusIn e h = barred h
clear-stmts t k.BusOut e h = barred h
clear-stmts t k.Name e h = barred h
clear-stmts t _ e h = rw e refl

clear-else_tail : (t : Placed) (kind_is : Kind) → kind t ≡ kind_is → May f.else_tail kind_is → Clear f.else_tail t
unfolding rule else_tail_rule number mark_number
clear-else_tail t k.Else e h = barred h
clear-else_tail t _ e h = rw e refl

clear-opt_simple : (t : Placed) (kind_is : Kind) → kind t ≡ kind_is → May f.opt_simple kind_is → Clear f.opt_simple t
unfolding rule opt_simple_rule number mark_number
clear-opt_simple t (k.Mark m.Semicolon) e h = rw e refl
clear-opt_simple t (k.Mark m.ParenClose) e h = rw e refl
clear-opt_simple t _ e h = barred h

clear-opt_expr : (t : Placed) (kind_is : Kind) → kind t ≡ kind_is → May f.opt_expr kind_is → Clear f.opt_expr t
unfolding rule opt_expr_rule number mark_number
clear-opt_expr t (k.Mark m.Semicolon) e h = rw e refl
clear-opt_expr t _ e h = barred h

clear-index : (t : Placed) (kind_is : Kind) → kind t ≡ kind_is → May f.index kind_is → Clear f.index t
unfolding rule index_rule number mark_number
clear-index t (k.Mark m.BracketOpen) e h = barred h
clear-index t _ e h = rw e refl

clear-arms : (b : Bool) (t : Placed) (kind_is : Kind) → kind t ≡ kind_is → May (f.arms b) kind_is → Clear (f.arms b) t
unfolding rule arms_rule number mark_number
clear-arms true t k.Case e h = barred h
clear-arms true t _ e h = rw e refl
clear-arms false t k.Case e h = barred h
clear-arms false t k.Default e h = barred h
clear-arms false t _ e h = rw e refl

clear-arm_tail : (b : Bool) (t : Placed) (kind_is : Kind) → kind t ≡ kind_is → May (f.arm_tail b) kind_is → Clear (f.arm_tail b) t
unfolding rule arm_tail_rule number mark_number
clear-arm_tail true t k.Case e h = barred h
clear-arm_tail true t _ e h = rw e refl
clear-arm_tail false t k.Case e h = barred h
clear-arm_tail false t k.Default e h = barred h
clear-arm_tail false t _ e h = rw e refl

clear-arm_end : (b : Bool) (t : Placed) (kind_is : Kind) → kind t ≡ kind_is → May (f.arm_end b) kind_is → Clear (f.arm_end b) t
unfolding rule arm_end_rule number mark_number
clear-arm_end b t k.Break e h = barred h
clear-arm_end b t _ e h = rw e refl

clear-case_end : (t : Placed) (kind_is : Kind) → kind t ≡ kind_is → May f.case_end kind_is → Clear f.case_end t
unfolding rule case_end_rule number mark_number
clear-case_end t k.Break e h = barred h
clear-case_end t _ e h = rw e refl

clear-more_cases : (t : Placed) (kind_is : Kind) → kind t ≡ kind_is → May f.more_cases kind_is → Clear f.more_cases t
unfolding rule more_cases_rule number mark_number
clear-more_cases t k.Case e h = barred h
clear-more_cases t k.Default e h = barred h
clear-more_cases t _ e h = rw e refl

clear-other_end : (t : Placed) (kind_is : Kind) → kind t ≡ kind_is → May f.other_end kind_is → Clear f.other_end t
unfolding rule other_end_rule number mark_number
clear-other_end t k.Break e h = barred h
clear-other_end t _ e h = rw e refl

clear-program : (t : Placed) (kind_is : Kind) → kind t ≡ kind_is → May f.program kind_is → Clear f.program t
unfolding rule program_rule number mark_number
clear-program t kind_is e h = refl

clear-items : (t : Placed) (kind_is : Kind) → kind t ≡ kind_is → May f.items kind_is → Clear f.items t
unfolding rule items_rule number mark_number
clear-items t kind_is e h = barred h

clear-opt_void : (t : Placed) (kind_is : Kind) → kind t ≡ kind_is → May f.opt_void kind_is → Clear f.opt_void t
unfolding rule opt_void_rule number mark_number
clear-opt_void t k.Void e h = barred h
clear-opt_void t _ e h = rw e refl

clear-opt_params : (t : Placed) (kind_is : Kind) → kind t ≡ kind_is → May f.opt_params kind_is → Clear f.opt_params t
unfolding rule opt_params_rule number mark_number
clear-opt_params t (k.Mark m.ParenOpen) e h = barred h
clear-opt_params t _ e h = rw e refl

clear-names : (t : Placed) (kind_is : Kind) → kind t ≡ kind_is → May f.names kind_is → Clear f.names t
unfolding rule names_rule number mark_number
clear-names t (k.Mark m.ParenClose) e h = rw e refl
clear-names t _ e h = barred h

pub clear : (x : Form) (t : Placed) → may_be_empty x ≡ true → allows (follow x) (Some (kind t)) ≡ true → rule x (Some t) ≡ rule x None
clear f.choice_tail t is h = clear-choice_tail t (kind t) refl h
clear (f.binary_tail n) t is h = clear-binary_tail n t (kind t) refl h
clear f.name_tail t is h = clear-name_tail t (kind t) refl h
clear f.args t is h = clear-args t (kind t) refl h
clear f.more_exprs t is h = clear-more_exprs t (kind t) refl h
clear f.postfix_tail t is h = clear-postfix_tail t (kind t) refl h
clear (f.more_vars b) t is h = clear-more_vars b t (kind t) refl h
clear (f.var_tail b) t is h = clear-var_tail b t (kind t) refl h
clear (f.more_mems i) t is h = clear-more_mems i t (kind t) refl h
clear (f.mem_init Always) t is h = barred is
clear (f.mem_init Never) t is h = clear-mem_init_never t
clear (f.mem_init Maybe) t is h = clear-mem_init t (kind t) refl h
clear f.sig_tail t is h = clear-sig_tail t (kind t) refl h
clear f.more_sigs t is h = clear-more_sigs t (kind t) refl h
clear f.more_names t is h = clear-more_names t (kind t) refl h
clear f.with t is h = clear-with t (kind t) refl h
clear f.more_specs t is h = clear-more_specs t (kind t) refl h
clear f.more_texts t is h = clear-more_texts t (kind t) refl h
clear f.declared t is h = clear-declared t (kind t) refl h
clear f.stmts t is h = clear-stmts t (kind t) refl h
clear f.else_tail t is h = clear-else_tail t (kind t) refl h
clear f.opt_simple t is h = clear-opt_simple t (kind t) refl h
clear f.opt_expr t is h = clear-opt_expr t (kind t) refl h
clear f.index t is h = clear-index t (kind t) refl h
clear (f.arms b) t is h = clear-arms b t (kind t) refl h
clear (f.arm_tail b) t is h = clear-arm_tail b t (kind t) refl h
clear (f.arm_end b) t is h = clear-arm_end b t (kind t) refl h
clear f.case_end t is h = clear-case_end t (kind t) refl h
clear f.more_cases t is h = clear-more_cases t (kind t) refl h
clear f.other_end t is h = clear-other_end t (kind t) refl h
clear f.program t is h = clear-program t (kind t) refl h
clear f.items t is h = clear-items t (kind t) refl h
clear f.opt_void t is h = clear-opt_void t (kind t) refl h
clear f.opt_params t is h = clear-opt_params t (kind t) refl h
clear f.names t is h = clear-names t (kind t) refl h
clear _ t is h = barred is
