-- The rules of items fit their forms.
use Rattle.std.proofs.Common.{◌≡◌, true, Some, refl}
use Rattle.hc_lex.specs.declared.mark.Mark.TheVariants as m
use Rattle.hc_lex.specs.declared.token.Placed.{Placed}
use Rattle.hc_grammar.specs.declared.kind.Kind.{Kind}
use Rattle.hc_grammar.specs.declared.kind.Kind.TheVariants as k
use Rattle.hc_grammar.specs.Kind.{kind}
use Rattle.hc_grammar.specs.Order.{number, mark_number}
use Rattle.hc_grammar.specs.Form as f
use Rattle.hc_grammar.specs.Form.{Form, Gives, Initial, Never, Maybe, Always}
use Rattle.hc_grammar.specs.Expression.{begins_type}
use Rattle.hc_grammar.specs.Statement.{begins_decl}
use Rattle.hc_grammar.specs.Item.{program_rule, items_rule, item_rule, set_tail_rule, opt_void_rule, interface_tail_rule, macro_rule, macro_tail_rule, params_rule, opt_params_rule, names_rule}
use Rattle.hc_grammar.specs.Grammar.{rule}
use Rattle.hc_grammar.proofs.Fits.{fits}

pub rows-program : (t : Placed) (kind_is : Kind) → kind t ≡ kind_is → fits f.program (rule f.program (Some t)) ≡ true
unfolding rule program_rule number mark_number
rows-program t kind_is e = refl

pub rows-items : (t : Placed) (kind_is : Kind) → kind t ≡ kind_is → fits f.items (rule f.items (Some t)) ≡ true
unfolding rule items_rule number mark_number
rows-items t kind_is e = refl

pub rows-item : (t : Placed) (kind_is : Kind) → kind t ≡ kind_is → fits f.item (rule f.item (Some t)) ≡ true
unfolding rule item_rule begins_decl begins_type number mark_number
rows-item t (k.Mark m.Question) e = rw e refl
rows-item t _ e = rw e refl

pub rows-set_tail : (t : Placed) (kind_is : Kind) → kind t ≡ kind_is → fits f.set_tail (rule f.set_tail (Some t)) ≡ true
unfolding rule set_tail_rule number mark_number
rows-set_tail t (k.Mark m.Question) e = rw e refl
rows-set_tail t _ e = rw e refl

pub rows-opt_void : (t : Placed) (kind_is : Kind) → kind t ≡ kind_is → fits f.opt_void (rule f.opt_void (Some t)) ≡ true
unfolding rule opt_void_rule number mark_number
rows-opt_void t (k.Mark m.Question) e = rw e refl
rows-opt_void t _ e = rw e refl

pub rows-interface_tail : (t : Placed) (kind_is : Kind) → kind t ≡ kind_is → fits f.interface_tail (rule f.interface_tail (Some t)) ≡ true
unfolding rule interface_tail_rule number mark_number
rows-interface_tail t (k.Mark m.Question) e = rw e refl
rows-interface_tail t _ e = rw e refl

pub rows-macro : (t : Placed) (kind_is : Kind) → kind t ≡ kind_is → fits f.macro (rule f.macro (Some t)) ≡ true
unfolding rule macro_rule number mark_number
rows-macro t kind_is e = refl

pub rows-macro_tail : (t : Placed) (kind_is : Kind) → kind t ≡ kind_is → fits f.macro_tail (rule f.macro_tail (Some t)) ≡ true
unfolding rule macro_tail_rule number mark_number
rows-macro_tail t (k.Mark m.Question) e = rw e refl
rows-macro_tail t _ e = rw e refl

pub rows-params : (t : Placed) (kind_is : Kind) → kind t ≡ kind_is → fits f.params (rule f.params (Some t)) ≡ true
unfolding rule params_rule number mark_number
rows-params t kind_is e = refl

pub rows-opt_params : (t : Placed) (kind_is : Kind) → kind t ≡ kind_is → fits f.opt_params (rule f.opt_params (Some t)) ≡ true
unfolding rule opt_params_rule number mark_number
rows-opt_params t (k.Mark m.Question) e = rw e refl
rows-opt_params t _ e = rw e refl

pub rows-names : (t : Placed) (kind_is : Kind) → kind t ≡ kind_is → fits f.names (rule f.names (Some t)) ≡ true
unfolding rule names_rule number mark_number
rows-names t (k.Mark m.Question) e = rw e refl
rows-names t _ e = rw e refl
