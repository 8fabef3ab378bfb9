-- The rules of declarations fit their forms.
use Rattle.std.proofs.Common.{◌≡◌, Bool, true, false, Some, refl}
use Rattle.hc_lex.specs.declared.mark.Mark.TheVariants as m
use Rattle.hc_lex.specs.declared.token.Placed.{Placed}
use Rattle.hc_grammar.specs.declared.kind.Kind.{Kind}
use Rattle.hc_grammar.specs.declared.kind.Kind.TheVariants as k
use Rattle.hc_grammar.specs.Kind.{kind}
use Rattle.hc_grammar.specs.Order.{number, mark_number}
use Rattle.hc_grammar.specs.Form as f
use Rattle.hc_grammar.specs.Form.{Form, Gives, Initial, Never, Maybe, Always}
use Rattle.hc_grammar.specs.Expression.{begins_type}
use Rattle.hc_grammar.specs.Declaration.{decl_rule, static_tail_rule, vars_tail_rule, more_vars_rule, var_rule, var_tail_rule, memories_tail_rule, mem_rule, more_mems_rule, mem_init_rule, boxed_rule, sig_rule, sig_tail_rule, more_sigs_rule, more_names_rule, with_rule, spec_rule, more_specs_rule, spec_value_rule, more_texts_rule}
use Rattle.hc_grammar.specs.Grammar.{rule}
use Rattle.hc_grammar.proofs.Fits.{fits}

pub rows-decl : (b : Bool) (t : Placed) (kind_is : Kind) → kind t ≡ kind_is → fits (f.decl b) (rule (f.decl b) (Some t)) ≡ true
unfolding rule decl_rule begins_type number mark_number
rows-decl l t (k.Mark m.Question) e = rw e refl
rows-decl l t _ e = rw e refl

pub rows-static_tail : (t : Placed) (kind_is : Kind) → kind t ≡ kind_is → fits f.static_tail (rule f.static_tail (Some t)) ≡ true
unfolding rule static_tail_rule begins_type number mark_number
rows-static_tail t (k.Mark m.Question) e = rw e refl
rows-static_tail t _ e = rw e refl

pub rows-vars_tail : (b : Bool) (t : Placed) (kind_is : Kind) → kind t ≡ kind_is → fits (f.vars_tail b) (rule (f.vars_tail b) (Some t)) ≡ true
unfolding rule vars_tail_rule number mark_number
rows-vars_tail b t kind_is e = refl

pub rows-more_vars : (b : Bool) (t : Placed) (kind_is : Kind) → kind t ≡ kind_is → fits (f.more_vars b) (rule (f.more_vars b) (Some t)) ≡ true
unfolding rule more_vars_rule number mark_number
rows-more_vars b t (k.Mark m.Question) e = rw e refl
rows-more_vars b t _ e = rw e refl

pub rows-var : (b : Bool) (t : Placed) (kind_is : Kind) → kind t ≡ kind_is → fits (f.var b) (rule (f.var b) (Some t)) ≡ true
unfolding rule var_rule number mark_number
rows-var b t kind_is e = refl

pub rows-var_tail : (b : Bool) (t : Placed) (kind_is : Kind) → kind t ≡ kind_is → fits (f.var_tail b) (rule (f.var_tail b) (Some t)) ≡ true
unfolding rule var_tail_rule number mark_number
rows-var_tail true t (k.Mark m.Question) e = rw e refl
rows-var_tail true t _ e = rw e refl
rows-var_tail false t (k.Mark m.Question) e = rw e refl
rows-var_tail false t _ e = rw e refl

pub rows-memories_tail : (i : Initial) (t : Placed) (kind_is : Kind) → kind t ≡ kind_is → fits (f.memories_tail i) (rule (f.memories_tail i) (Some t)) ≡ true
unfolding rule memories_tail_rule number mark_number
rows-memories_tail i t kind_is e = refl

pub rows-mem : (i : Initial) (t : Placed) (kind_is : Kind) → kind t ≡ kind_is → fits (f.mem i) (rule (f.mem i) (Some t)) ≡ true
unfolding rule mem_rule number mark_number
rows-mem i t kind_is e = refl

pub rows-more_mems : (i : Initial) (t : Placed) (kind_is : Kind) → kind t ≡ kind_is → fits (f.more_mems i) (rule (f.more_mems i) (Some t)) ≡ true
unfolding rule more_mems_rule number mark_number
rows-more_mems i t (k.Mark m.Question) e = rw e refl
rows-more_mems i t _ e = rw e refl

pub rows-mem_init : (i : Initial) (t : Placed) (kind_is : Kind) → kind t ≡ kind_is → fits (f.mem_init i) (rule (f.mem_init i) (Some t)) ≡ true
unfolding rule mem_init_rule number mark_number
rows-mem_init Never t kind_is e = refl
rows-mem_init Maybe t (k.Mark m.Question) e = rw e refl
rows-mem_init Maybe t _ e = rw e refl
rows-mem_init Always t kind_is e = refl

pub rows-boxed : (t : Placed) (kind_is : Kind) → kind t ≡ kind_is → fits f.boxed (rule f.boxed (Some t)) ≡ true
unfolding rule boxed_rule number mark_number
rows-boxed t (k.Mark m.Question) e = rw e refl
rows-boxed t _ e = rw e refl

pub rows-sig : (t : Placed) (kind_is : Kind) → kind t ≡ kind_is → fits f.sig (rule f.sig (Some t)) ≡ true
unfolding rule sig_rule number mark_number
rows-sig t kind_is e = refl

pub rows-sig_tail : (t : Placed) (kind_is : Kind) → kind t ≡ kind_is → fits f.sig_tail (rule f.sig_tail (Some t)) ≡ true
unfolding rule sig_tail_rule number mark_number
rows-sig_tail t (k.Mark m.Question) e = rw e refl
rows-sig_tail t _ e = rw e refl

pub rows-more_sigs : (t : Placed) (kind_is : Kind) → kind t ≡ kind_is → fits f.more_sigs (rule f.more_sigs (Some t)) ≡ true
unfolding rule more_sigs_rule number mark_number
rows-more_sigs t (k.Mark m.Question) e = rw e refl
rows-more_sigs t _ e = rw e refl

pub rows-more_names : (t : Placed) (kind_is : Kind) → kind t ≡ kind_is → fits f.more_names (rule f.more_names (Some t)) ≡ true
unfolding rule more_names_rule number mark_number
rows-more_names t (k.Mark m.Question) e = rw e refl
rows-more_names t _ e = rw e refl

pub rows-with : (t : Placed) (kind_is : Kind) → kind t ≡ kind_is → fits f.with (rule f.with (Some t)) ≡ true
unfolding rule with_rule number mark_number
rows-with t (k.Mark m.Question) e = rw e refl
rows-with t _ e = rw e refl

pub rows-spec : (t : Placed) (kind_is : Kind) → kind t ≡ kind_is → fits f.spec (rule f.spec (Some t)) ≡ true
unfolding rule spec_rule number mark_number
rows-spec t kind_is e = refl

pub rows-more_specs : (t : Placed) (kind_is : Kind) → kind t ≡ kind_is → fits f.more_specs (rule f.more_specs (Some t)) ≡ true
unfolding rule more_specs_rule number mark_number
rows-more_specs t (k.Mark m.Question) e = rw e refl
rows-more_specs t _ e = rw e refl

pub rows-spec_value : (t : Placed) (kind_is : Kind) → kind t ≡ kind_is → fits f.spec_value (rule f.spec_value (Some t)) ≡ true
unfolding rule spec_value_rule number mark_number
rows-spec_value t (k.Mark m.Question) e = rw e refl
rows-spec_value t _ e = rw e refl

pub rows-more_texts : (t : Placed) (kind_is : Kind) → kind t ≡ kind_is → fits f.more_texts (rule f.more_texts (Some t)) ≡ true
unfolding rule more_texts_rule number mark_number
rows-more_texts t (k.Mark m.Question) e = rw e refl
rows-more_texts t _ e = rw e refl
