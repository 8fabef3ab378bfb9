-- The rules of statements fit their forms.
use Rattle.std.proofs.Common.{◌≡◌, Bool, true, false, Some, refl}
use Rattle.hc_tree.specs.declared.stmt.Order.{Order}
use Rattle.hc_lex.specs.declared.mark.Mark.TheVariants as m
use Rattle.hc_lex.specs.declared.token.Placed.{Placed}
use Rattle.hc_grammar.specs.declared.kind.Kind.{Kind}
use Rattle.hc_grammar.specs.declared.kind.Kind.TheVariants as k
use Rattle.hc_grammar.specs.Kind.{kind, is_name}
use Rattle.hc_grammar.specs.Order.{number, mark_number}
use Rattle.hc_grammar.specs.Form as f
use Rattle.hc_grammar.specs.Form.{Form, Gives, Initial, Never, Maybe, Always}
use Rattle.hc_grammar.specs.Expression.{begins_type}
use Rattle.hc_grammar.specs.Statement.{block_rule, declared_rule, stmts_rule, stmt_rule, order_tail_rule, name_stmt_tail_rule, else_tail_rule, simple_rule, simple_tail_rule, opt_simple_rule, opt_expr_rule, target_rule, index_rule, assign_rule, arms_rule, arm_tail_rule, arm_end_rule, cases_rule, offer_rule, case_end_rule, more_cases_rule, other_end_rule, begins_decl, begins_stmt}
use Rattle.hc_grammar.specs.Grammar.{rule}
use Rattle.hc_grammar.proofs.Fits.{fits}

pub rows-block : (t : Placed) (kind_is : Kind) → kind t ≡ kind_is → fits f.block (rule f.block (Some t)) ≡ true
unfolding rule block_rule number mark_number
rows-block t kind_is e = refl

pub rows-declared : (t : Placed) (kind_is : Kind) → kind t ≡ kind_is → fits f.declared (rule f.declared (Some t)) ≡ true
unfolding rule declared_rule begins_decl begins_type number mark_number
rows-declared t (k.Mark m.Question) e = rw e refl
rows-declared t _ e = rw e refl

pub rows-stmts : (t : Placed) (kind_is : Kind) → kind t ≡ kind_is → fits f.stmts (rule f.stmts (Some t)) ≡ true
unfolding rule stmts_rule begins_stmt is_name number mark_number
rows-stmts t (k.Mark m.Question) e = rw e refl
rows-stmts t _ e = rw e refl

pub rows-stmt : (t : Placed) (kind_is : Kind) → kind t ≡ kind_is → fits f.stmt (rule f.stmt (Some t)) ≡ true
unfolding rule stmt_rule is_name number mark_number
rows-stmt t (k.Mark m.Question) e = rw e refl
rows-stmt t _ e = rw e refl

pub rows-order_tail : (o : Order) (t : Placed) (kind_is : Kind) → kind t ≡ kind_is → fits (f.order_tail o) (rule (f.order_tail o) (Some t)) ≡ true
unfolding rule order_tail_rule number mark_number
rows-order_tail o t (k.Mark m.Question) e = rw e refl
rows-order_tail o t _ e = rw e refl

pub rows-name_stmt_tail : (t : Placed) (kind_is : Kind) → kind t ≡ kind_is → fits f.name_stmt_tail (rule f.name_stmt_tail (Some t)) ≡ true
unfolding rule name_stmt_tail_rule number mark_number
rows-name_stmt_tail t (k.Mark m.Question) e = rw e refl
rows-name_stmt_tail t _ e = rw e refl

pub rows-else_tail : (t : Placed) (kind_is : Kind) → kind t ≡ kind_is → fits f.else_tail (rule f.else_tail (Some t)) ≡ true
unfolding rule else_tail_rule number mark_number
rows-else_tail t (k.Mark m.Question) e = rw e refl
rows-else_tail t _ e = rw e refl

pub rows-simple : (t : Placed) (kind_is : Kind) → kind t ≡ kind_is → fits f.simple (rule f.simple (Some t)) ≡ true
unfolding rule simple_rule number mark_number
rows-simple t (k.Mark m.Question) e = rw e refl
rows-simple t _ e = rw e refl

pub rows-simple_tail : (t : Placed) (kind_is : Kind) → kind t ≡ kind_is → fits f.simple_tail (rule f.simple_tail (Some t)) ≡ true
unfolding rule simple_tail_rule number mark_number
rows-simple_tail t (k.Mark m.Question) e = rw e refl
rows-simple_tail t _ e = rw e refl

pub rows-opt_simple : (t : Placed) (kind_is : Kind) → kind t ≡ kind_is → fits f.opt_simple (rule f.opt_simple (Some t)) ≡ true
unfolding rule opt_simple_rule number mark_number
rows-opt_simple t (k.Mark m.Question) e = rw e refl
rows-opt_simple t _ e = rw e refl

pub rows-opt_expr : (t : Placed) (kind_is : Kind) → kind t ≡ kind_is → fits f.opt_expr (rule f.opt_expr (Some t)) ≡ true
unfolding rule opt_expr_rule number mark_number
rows-opt_expr t (k.Mark m.Question) e = rw e refl
rows-opt_expr t _ e = rw e refl

pub rows-target : (t : Placed) (kind_is : Kind) → kind t ≡ kind_is → fits f.target (rule f.target (Some t)) ≡ true
unfolding rule target_rule number mark_number
rows-target t kind_is e = refl

pub rows-index : (t : Placed) (kind_is : Kind) → kind t ≡ kind_is → fits f.index (rule f.index (Some t)) ≡ true
unfolding rule index_rule number mark_number
rows-index t (k.Mark m.Question) e = rw e refl
rows-index t _ e = rw e refl

pub rows-assign : (t : Placed) (kind_is : Kind) → kind t ≡ kind_is → fits f.assign (rule f.assign (Some t)) ≡ true
unfolding rule assign_rule number mark_number
rows-assign t (k.Mark m.Question) e = rw e refl
rows-assign t _ e = rw e refl

pub rows-arms : (b : Bool) (t : Placed) (kind_is : Kind) → kind t ≡ kind_is → fits (f.arms b) (rule (f.arms b) (Some t)) ≡ true
unfolding rule arms_rule number mark_number
rows-arms true t (k.Mark m.Question) e = rw e refl
rows-arms true t _ e = rw e refl
rows-arms false t (k.Mark m.Question) e = rw e refl
rows-arms false t _ e = rw e refl

pub rows-arm_tail : (b : Bool) (t : Placed) (kind_is : Kind) → kind t ≡ kind_is → fits (f.arm_tail b) (rule (f.arm_tail b) (Some t)) ≡ true
unfolding rule arm_tail_rule number mark_number
rows-arm_tail true t (k.Mark m.Question) e = rw e refl
rows-arm_tail true t _ e = rw e refl
rows-arm_tail false t (k.Mark m.Question) e = rw e refl
rows-arm_tail false t _ e = rw e refl

pub rows-arm_end : (b : Bool) (t : Placed) (kind_is : Kind) → kind t ≡ kind_is → fits (f.arm_end b) (rule (f.arm_end b) (Some t)) ≡ true
unfolding rule arm_end_rule number mark_number
rows-arm_end b t (k.Mark m.Question) e = rw e refl
rows-arm_end b t _ e = rw e refl

pub rows-cases : (t : Placed) (kind_is : Kind) → kind t ≡ kind_is → fits f.cases (rule f.cases (Some t)) ≡ true
unfolding rule cases_rule number mark_number
rows-cases t (k.Mark m.Question) e = rw e refl
rows-cases t _ e = rw e refl

pub rows-offer : (t : Placed) (kind_is : Kind) → kind t ≡ kind_is → fits f.offer (rule f.offer (Some t)) ≡ true
unfolding rule offer_rule number mark_number
rows-offer t (k.Mark m.Question) e = rw e refl
rows-offer t _ e = rw e refl

pub rows-case_end : (t : Placed) (kind_is : Kind) → kind t ≡ kind_is → fits f.case_end (rule f.case_end (Some t)) ≡ true
unfolding rule case_end_rule number mark_number
rows-case_end t (k.Mark m.Question) e = rw e refl
rows-case_end t _ e = rw e refl

pub rows-more_cases : (t : Placed) (kind_is : Kind) → kind t ≡ kind_is → fits f.more_cases (rule f.more_cases (Some t)) ≡ true
unfolding rule more_cases_rule number mark_number
rows-more_cases t (k.Mark m.Question) e = rw e refl
rows-more_cases t _ e = rw e refl

pub rows-other_end : (t : Placed) (kind_is : Kind) → kind t ≡ kind_is → fits f.other_end (rule f.other_end (Some t)) ≡ true
unfolding rule other_end_rule number mark_number
rows-other_end t (k.Mark m.Question) e = rw e refl
rows-other_end t _ e = rw e refl
