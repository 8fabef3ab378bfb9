-- The rules of declarations, of lists of names and of what is written, by what the code tests of the token at the front.
use Rattle.std.proofs.Common.{◌≡◌, ◌≢◌, Bool, true, false, List, [], ◌∷◌, length, Option, Some, None, refl, sym, ap, subst, ◌∙◌}
use Rattle.std.specs.Prelude.{option_map, option_and_then, if◌then◌else◌, not, Err}
use Rattle.hc_tree.specs.declared.decl.Decl.TheVariants as d
use Rattle.hc_tree.specs.declared.decl.MemoryKind.TheVariants.{Ram, Rom}
use Rattle.hc_tree.specs.declared.decl.BoxedType.TheVariants.{Bare, InAngles}
use Rattle.hc_tree.specs.declared.decl.Var.TheVariants.{Register, Array}
use Rattle.hc_tree.specs.declared.decl.SpecValue.TheVariants as value
use Rattle.hc_tree.specs.declared.place.Place.{Place}
use Rattle.hc_tree.specs.declared.stmt.Step.{Step}
use Rattle.hc_tree.specs.declared.stmt.Assign.{Assign}
use Rattle.hc_tree.specs.declared.stmt.Simple.TheVariants as simple
use Rattle.hc_lex.specs.declared.mark.Mark.TheVariants as m
use Rattle.hc_lex.specs.declared.token.Placed.{Placed}
use Rattle.hc_grammar.specs.declared.halt.Halt.{Halt}
use Rattle.hc_grammar.specs.declared.halt.Halt.TheVariants.{Refused, NoMemory}
use Rattle.hc_grammar.specs.declared.kind.Kind.{Kind}
use Rattle.hc_grammar.specs.declared.kind.Kind.TheVariants as kinds
use Rattle.hc_grammar.specs.Kind.{kind}
use Rattle.hc_grammar.specs.Table.{Rule, mark, form, front}
use Rattle.hc_grammar.specs.Form as f
use Rattle.hc_grammar.specs.Form.{Form, Gives}
use Rattle.hc_grammar.specs.Expression.{Rules, by_front, sign, empty, begins_type}
use Rattle.hc_grammar.specs.Declaration.{allowed, decl_rule, static_tail_rule, vars_tail_rule, more_vars_rule, var_rule, var_tail_rule, memories_tail_rule, mem_rule, more_mems_rule, mem_init_rule, boxed_rule, sig_rule, sig_tail_rule, more_sigs_rule, more_names_rule, with_rule, spec_rule, more_specs_rule, spec_value_rule, more_texts_rule}
use Rattle.hc_grammar.specs.Statement.{step, simple_rule, simple_tail_rule, opt_simple_rule, opt_expr_rule, target_rule, index_rule, assign_mark, assign_rule}
use Rattle.hc_grammar.specs.Item.{names_rule, params_rule, opt_params_rule}
use Rattle.hc_grammar.specs.Grammar.{rule}
use Rattle.hc_grammar.specs.Cursor.{Ahead, MarkRead, place_at, place_before}
use Rattle.hc_grammar.specs.Answers.{Halts}
use Rattle.hc_grammar.specs.Walk.{pick, fall, start, refused_front, refused_mark}
use Rattle.hc_exparse.specs.Ops.{next_kind}
use Rattle.hc_exparse.proofs.Walk.{mark_missing}
use Rattle.hc_parse.specs.declared.memories.Initial.{Initial}
use Rattle.hc_parse.specs.declared.memories.Initial.TheVariants as initials
use Rattle.hc_parse.specs.Initials.{initial, HasNone, HasValues}

pub differs : (c : Ahead) (k other : Kind) → next_kind c ≡ Some k → next_kind c ≢ Some other → k ≢ other
differs c k other known not_other same = not_other (known ∙ ap Some same)

-- no token is left
pub no_front : (c : Ahead) → length c.rest ≡ 0 → front c.rest ≡ None
no_front c none = at c.rest none
  where
    at : (ts : List Placed) → length ts ≡ 0 → front ts ≡ None
    at [] h = refl
    at (t ∷ tail) h = absurd cc

-- one rule for any token
any : {x : Form} (found : Rules x) (c : Ahead) → length c.rest ≢ 0 → by_front None (λ t k. found) (front c.rest) ≡ found
any {x} found c more = at c.rest more
  where
    at : (ts : List Placed) → length ts ≢ 0 → by_front {x = x} None (λ t k. found) (front ts) ≡ found
    at [] more = absurd (more refl)
    at (t ∷ tail) more = refl

-- the rule of any token but some
but : {x : Form} (ending : Rules x) (rules : Placed → Kind → Rules x) (wanted : Rules x) (c : Ahead) → length c.rest ≢ 0
    → ((t : Placed) (k : Kind) → next_kind c ≡ Some k → rules t k ≡ wanted) → by_front ending rules (front c.rest) ≡ wanted
but {x} ending rules wanted c more others = at c.rest more others
  where
    at : (ts : List Placed) → length ts ≢ 0 → ((t : Placed) (k : Kind) → option_map kind (front ts) ≡ Some k → rules t k ≡ wanted)
        → by_front ending rules (front ts) ≡ wanted
    at [] more others = absurd (more refl)
    at (t ∷ tail) more others = others t (kind t) refl

-- ---- by whether the token is of one kind

abbrev at_comma : {x : Form} → Rules x → Rules x → Kind → Rules x
at_comma found other (kinds.Mark m.Comma) = found
at_comma found other _ = other

not_comma : {x : Form} (found other : Rules x) (k : Kind) → k ≢ kinds.Mark m.Comma → at_comma found other k ≡ other
not_comma found other (kinds.Mark m.Comma) differ = absurd (differ refl)
not_comma found other _ differ = refl

comma : {x : Form} (found other : Rules x) (c : Ahead) → next_kind c ≡ Some (kinds.Mark m.Comma) → by_front other (λ t. at_comma found other) (front c.rest) ≡ found
comma found other c known = pick other (λ t. at_comma found other) (λ at. found) c (kinds.Mark m.Comma) known (λ t. refl)

no_comma : {x : Form} (found other : Rules x) (c : Ahead) → next_kind c ≢ Some (kinds.Mark m.Comma) → by_front other (λ t. at_comma found other) (front c.rest) ≡ other
no_comma found other c gone = fall other (λ t. at_comma found other) other c refl (λ t k known. not_comma found other k (differs c k (kinds.Mark m.Comma) known gone))

abbrev at_assign : {x : Form} → Rules x → Rules x → Kind → Rules x
at_assign found other (kinds.Mark m.Assign) = found
at_assign found other _ = other

not_assign : {x : Form} (found other : Rules x) (k : Kind) → k ≢ kinds.Mark m.Assign → at_assign found other k ≡ other
not_assign found other (kinds.Mark m.Assign) differ = absurd (differ refl)
not_assign found other _ differ = refl

assign : {x : Form} (found other : Rules x) (c : Ahead) → next_kind c ≡ Some (kinds.Mark m.Assign) → by_front other (λ t. at_assign found other) (front c.rest) ≡ found
assign found other c known = pick other (λ t. at_assign found other) (λ at. found) c (kinds.Mark m.Assign) known (λ t. refl)

no_assign : {x : Form} (found other : Rules x) (c : Ahead) → next_kind c ≢ Some (kinds.Mark m.Assign) → by_front other (λ t. at_assign found other) (front c.rest) ≡ other
no_assign found other c gone = fall other (λ t. at_assign found other) other c refl (λ t k known. not_assign found other k (differs c k (kinds.Mark m.Assign) known gone))

abbrev at_round : {x : Form} → Rules x → Rules x → Kind → Rules x
at_round found other (kinds.Mark m.ParenOpen) = found
at_round found other _ = other

not_round : {x : Form} (found other : Rules x) (k : Kind) → k ≢ kinds.Mark m.ParenOpen → at_round found other k ≡ other
not_round found other (kinds.Mark m.ParenOpen) differ = absurd (differ refl)
not_round found other _ differ = refl

round : {x : Form} (found other : Rules x) (c : Ahead) → next_kind c ≡ Some (kinds.Mark m.ParenOpen) → by_front other (λ t. at_round found other) (front c.rest) ≡ found
round found other c known = pick other (λ t. at_round found other) (λ at. found) c (kinds.Mark m.ParenOpen) known (λ t. refl)

no_round : {x : Form} (found other : Rules x) (c : Ahead) → next_kind c ≢ Some (kinds.Mark m.ParenOpen) → by_front other (λ t. at_round found other) (front c.rest) ≡ other
no_round found other c gone = fall other (λ t. at_round found other) other c refl (λ t k known. not_round found other k (differs c k (kinds.Mark m.ParenOpen) known gone))

abbrev at_round_end : {x : Form} → Rules x → Rules x → Kind → Rules x
at_round_end found other (kinds.Mark m.ParenClose) = found
at_round_end found other _ = other

not_round_end : {x : Form} (found other : Rules x) (k : Kind) → k ≢ kinds.Mark m.ParenClose → at_round_end found other k ≡ other
not_round_end found other (kinds.Mark m.ParenClose) differ = absurd (differ refl)
not_round_end found other _ differ = refl

abbrev at_square : {x : Form} → Rules x → Rules x → Kind → Rules x
at_square found other (kinds.Mark m.BracketOpen) = found
at_square found other _ = other

not_square : {x : Form} (found other : Rules x) (k : Kind) → k ≢ kinds.Mark m.BracketOpen → at_square found other k ≡ other
not_square found other (kinds.Mark m.BracketOpen) differ = absurd (differ refl)
not_square found other _ differ = refl

square : {x : Form} (found other : Rules x) (c : Ahead) → next_kind c ≡ Some (kinds.Mark m.BracketOpen) → by_front other (λ t. at_square found other) (front c.rest) ≡ found
square found other c known = pick other (λ t. at_square found other) (λ at. found) c (kinds.Mark m.BracketOpen) known (λ t. refl)

no_square : {x : Form} (found other : Rules x) (c : Ahead) → next_kind c ≢ Some (kinds.Mark m.BracketOpen) → by_front other (λ t. at_square found other) (front c.rest) ≡ other
no_square found other c gone = fall other (λ t. at_square found other) other c refl (λ t k known. not_square found other k (differs c k (kinds.Mark m.BracketOpen) known gone))

abbrev at_semicolon : {x : Form} → Rules x → Rules x → Kind → Rules x
at_semicolon found other (kinds.Mark m.Semicolon) = found
at_semicolon found other _ = other

not_semicolon : {x : Form} (found other : Rules x) (k : Kind) → k ≢ kinds.Mark m.Semicolon → at_semicolon found other k ≡ other
not_semicolon found other (kinds.Mark m.Semicolon) differ = absurd (differ refl)
not_semicolon found other _ differ = refl

abbrev at_with_word : {x : Form} → Rules x → Rules x → Kind → Rules x
at_with_word found other kinds.With = found
at_with_word found other _ = other

not_with_word : {x : Form} (found other : Rules x) (k : Kind) → k ≢ kinds.With → at_with_word found other k ≡ other
not_with_word found other kinds.With differ = absurd (differ refl)
not_with_word found other _ differ = refl

with_word : {x : Form} (found other : Rules x) (c : Ahead) → next_kind c ≡ Some kinds.With → by_front other (λ t. at_with_word found other) (front c.rest) ≡ found
with_word found other c known = pick other (λ t. at_with_word found other) (λ at. found) c kinds.With known (λ t. refl)

no_with_word : {x : Form} (found other : Rules x) (c : Ahead) → next_kind c ≢ Some kinds.With → by_front other (λ t. at_with_word found other) (front c.rest) ≡ other
no_with_word found other c gone = fall other (λ t. at_with_word found other) other c refl (λ t k known. not_with_word found other k (differs c k kinds.With known gone))

abbrev at_less : {x : Form} → Rules x → Rules x → Kind → Rules x
at_less found other (kinds.Mark m.Less) = found
at_less found other _ = other

not_less : {x : Form} (found other : Rules x) (k : Kind) → k ≢ kinds.Mark m.Less → at_less found other k ≡ other
not_less found other (kinds.Mark m.Less) differ = absurd (differ refl)
not_less found other _ differ = refl

-- ---- names

abbrev pub more_names_row : Rule Kind Gives f.more_names
more_names_row = record { row = sign m.Comma ∷ form f.name ∷ form f.more_names ∷ []; gives = λ (x, (more, _)). x ∷ more }

pub more_names : (c : Ahead) → next_kind c ≡ Some (kinds.Mark m.Comma) → rule f.more_names (front c.rest) ≡ Some more_names_row
unfolding rule more_names_rule
more_names c known = comma (Some more_names_row) (empty []) c known

pub no_more_names : (c : Ahead) → next_kind c ≢ Some (kinds.Mark m.Comma) → rule f.more_names (front c.rest) ≡ Some (record { row = []; gives = λ _. [] })
unfolding rule more_names_rule
no_more_names c gone = no_comma (Some more_names_row) (empty []) c gone

abbrev pub names_row : Rule Kind Gives f.names
names_row = record { row = form f.name ∷ form f.more_names ∷ []; gives = λ (x, (more, _)). x ∷ more }

pub names_end : (c : Ahead) → length c.rest ≡ 0 → rule f.names (front c.rest) ≡ Some (record { row = []; gives = λ _. [] })
unfolding rule names_rule
names_end c none = rw (no_front c none) refl

pub no_names : (c : Ahead) → next_kind c ≡ Some (kinds.Mark m.ParenClose) → rule f.names (front c.rest) ≡ Some (record { row = []; gives = λ _. [] })
unfolding rule names_rule
no_names c known = pick (empty []) (λ t. at_round_end (empty []) (Some names_row)) (λ at. empty []) c (kinds.Mark m.ParenClose) known (λ t. refl)

pub names : (c : Ahead) → length c.rest ≢ 0 → next_kind c ≢ Some (kinds.Mark m.ParenClose) → rule f.names (front c.rest) ≡ Some names_row
unfolding rule names_rule
names c more gone = but (empty []) (λ t. at_round_end (empty []) (Some names_row)) (Some names_row) c more
    (λ t k known. not_round_end (empty []) (Some names_row) k (differs c k (kinds.Mark m.ParenClose) known gone))

abbrev pub params_row : Rule Kind Gives f.params
params_row = record { row = sign m.ParenOpen ∷ form f.names ∷ sign m.ParenClose ∷ []; gives = λ (names, _). record { names = names } }

pub params : (c : Ahead) → length c.rest ≢ 0 → rule f.params (front c.rest) ≡ Some params_row
unfolding rule params_rule
params c more = any (Some params_row) c more

pub params_none : (c : Ahead) → length c.rest ≡ 0 → rule f.params (front c.rest) ≡ None
unfolding rule params_rule
params_none c none = rw (no_front c none) refl

abbrev pub opt_params_row : Rule Kind Gives f.opt_params
opt_params_row = record { row = form f.params ∷ []; gives = λ (params, _). Some params }

pub opt_params : (c : Ahead) → next_kind c ≡ Some (kinds.Mark m.ParenOpen) → rule f.opt_params (front c.rest) ≡ Some opt_params_row
unfolding rule opt_params_rule
opt_params c known = round (Some opt_params_row) (empty None) c known

pub no_opt_params : (c : Ahead) → next_kind c ≢ Some (kinds.Mark m.ParenOpen) → rule f.opt_params (front c.rest) ≡ Some (record { row = []; gives = λ _. None })
unfolding rule opt_params_rule
no_opt_params c gone = no_round (Some opt_params_row) (empty None) c gone

-- ---- `with` lists

abbrev pub with_list_row : Rule Kind Gives f.with
with_list_row = record { row = mark kinds.With ∷ sign m.BraceOpen ∷ form f.spec ∷ form f.more_specs ∷ sign m.BraceClose ∷ []; gives = λ (s, (more, _)). Some (record { specs = s ∷ more }) }

pub with_list : (c : Ahead) → next_kind c ≡ Some kinds.With → rule f.with (front c.rest) ≡ Some with_list_row
unfolding rule with_rule
with_list c known = with_word (Some with_list_row) (empty None) c known

pub no_with_list : (c : Ahead) → next_kind c ≢ Some kinds.With → rule f.with (front c.rest) ≡ Some (record { row = []; gives = λ _. None })
unfolding rule with_rule
no_with_list c gone = no_with_word (Some with_list_row) (empty None) c gone

abbrev pub spec_row : Rule Kind Gives f.spec
spec_row = record { row = form f.name ∷ sign m.Assign ∷ form f.spec_value ∷ []; gives = λ (x, (v, _)). record { name = x; value = v } }

pub spec : (c : Ahead) → length c.rest ≢ 0 → rule f.spec (front c.rest) ≡ Some spec_row
unfolding rule spec_rule
spec c more = any (Some spec_row) c more

pub spec_none : (c : Ahead) → length c.rest ≡ 0 → rule f.spec (front c.rest) ≡ None
unfolding rule spec_rule
spec_none c none = rw (no_front c none) refl

abbrev pub more_specs_row : Rule Kind Gives f.more_specs
more_specs_row = record { row = sign m.Comma ∷ form f.spec ∷ form f.more_specs ∷ []; gives = λ (s, (more, _)). s ∷ more }

pub more_specs : (c : Ahead) → next_kind c ≡ Some (kinds.Mark m.Comma) → rule f.more_specs (front c.rest) ≡ Some more_specs_row
unfolding rule more_specs_rule
more_specs c known = comma (Some more_specs_row) (empty []) c known

pub no_more_specs : (c : Ahead) → next_kind c ≢ Some (kinds.Mark m.Comma) → rule f.more_specs (front c.rest) ≡ Some (record { row = []; gives = λ _. [] })
unfolding rule more_specs_rule
no_more_specs c gone = no_comma (Some more_specs_row) (empty []) c gone

abbrev pub more_texts_row : Rule Kind Gives f.more_texts
more_texts_row = record { row = sign m.Comma ∷ form f.text ∷ form f.more_texts ∷ []; gives = λ (text, (more, _)). text ∷ more }

pub more_texts : (c : Ahead) → next_kind c ≡ Some (kinds.Mark m.Comma) → rule f.more_texts (front c.rest) ≡ Some more_texts_row
unfolding rule more_texts_rule
more_texts c known = comma (Some more_texts_row) (empty []) c known

pub no_more_texts : (c : Ahead) → next_kind c ≢ Some (kinds.Mark m.Comma) → rule f.more_texts (front c.rest) ≡ Some (record { row = []; gives = λ _. [] })
unfolding rule more_texts_rule
no_more_texts c gone = no_comma (Some more_texts_row) (empty []) c gone

abbrev pub text_value_row : Rule Kind Gives f.spec_value
text_value_row = record { row = form f.text ∷ []; gives = λ (text, _). value.Text text }

abbrev pub texts_value_row : Rule Kind Gives f.spec_value
texts_value_row = record { row = sign m.BraceOpen ∷ form f.text ∷ form f.more_texts ∷ sign m.BraceClose ∷ []; gives = λ (text, (more, _)). value.Texts (text ∷ more) }

abbrev pub expr_value_row : Rule Kind Gives f.spec_value
expr_value_row = record { row = form f.expr ∷ []; gives = λ (v, _). value.Expr v }

abbrev value_by : Kind → Rules f.spec_value
value_by kinds.Text = Some text_value_row
value_by (kinds.Mark m.BraceOpen) = Some texts_value_row
value_by _ = Some expr_value_row

value_other : (k : Kind) → k ≢ kinds.Text → k ≢ kinds.Mark m.BraceOpen → value_by k ≡ Some expr_value_row
value_other kinds.Text not_text not_open = absurd (not_text refl)
value_other (kinds.Mark m.BraceOpen) not_text not_open = absurd (not_open refl)
value_other _ not_text not_open = refl

pub value_none : (c : Ahead) → length c.rest ≡ 0 → rule f.spec_value (front c.rest) ≡ None
unfolding rule spec_value_rule
value_none c none = rw (no_front c none) refl

pub text_value : (c : Ahead) → next_kind c ≡ Some kinds.Text → rule f.spec_value (front c.rest) ≡ Some text_value_row
unfolding rule spec_value_rule
text_value c known = pick None (λ t. value_by) (λ at. Some text_value_row) c kinds.Text known (λ t. refl)

pub texts_value : (c : Ahead) → next_kind c ≡ Some (kinds.Mark m.BraceOpen) → rule f.spec_value (front c.rest) ≡ Some texts_value_row
unfolding rule spec_value_rule
texts_value c known = pick None (λ t. value_by) (λ at. Some texts_value_row) c (kinds.Mark m.BraceOpen) known (λ t. refl)

pub expr_value : (c : Ahead) → length c.rest ≢ 0 → next_kind c ≢ Some kinds.Text → next_kind c ≢ Some (kinds.Mark m.BraceOpen)
    → rule f.spec_value (front c.rest) ≡ Some expr_value_row
unfolding rule spec_value_rule
expr_value c more not_text not_open = but None (λ t. value_by) (Some expr_value_row) c more
    (λ t k known. value_other k (differs c k kinds.Text known not_text) (differs c k (kinds.Mark m.BraceOpen) known not_open))

-- ---- what is written

abbrev pub target_row : Rule Kind Gives f.target
target_row = record { row = form f.name ∷ form f.index ∷ []; gives = λ (x, (i, _)). record { name = x; index = i } }

pub target : (c : Ahead) → length c.rest ≢ 0 → rule f.target (front c.rest) ≡ Some target_row
unfolding rule target_rule
target c more = any (Some target_row) c more

pub target_none : (c : Ahead) → length c.rest ≡ 0 → rule f.target (front c.rest) ≡ None
unfolding rule target_rule
target_none c none = rw (no_front c none) refl

abbrev pub index_row : Rule Kind Gives f.index
index_row = record { row = sign m.BracketOpen ∷ form f.expr ∷ sign m.BracketClose ∷ []; gives = λ (i, _). Some i }

pub index : (c : Ahead) → next_kind c ≡ Some (kinds.Mark m.BracketOpen) → rule f.index (front c.rest) ≡ Some index_row
unfolding rule index_rule
index c known = square (Some index_row) (empty None) c known

pub no_index : (c : Ahead) → next_kind c ≢ Some (kinds.Mark m.BracketOpen) → rule f.index (front c.rest) ≡ Some (record { row = []; gives = λ _. None })
unfolding rule index_rule
no_index c gone = no_square (Some index_row) (empty None) c gone

abbrev pub opt_expr_row : Rule Kind Gives f.opt_expr
opt_expr_row = record { row = form f.expr ∷ []; gives = λ (e, _). Some e }

abbrev pub opt_simple_row : Rule Kind Gives f.opt_simple
opt_simple_row = record { row = form f.simple ∷ []; gives = λ (x, _). Some x }

pub opt_expr_end : (c : Ahead) → length c.rest ≡ 0 → rule f.opt_expr (front c.rest) ≡ Some (record { row = []; gives = λ _. None })
unfolding rule opt_expr_rule
opt_expr_end c none = rw (no_front c none) refl

pub no_opt_expr : (c : Ahead) → next_kind c ≡ Some (kinds.Mark m.Semicolon) → rule f.opt_expr (front c.rest) ≡ Some (record { row = []; gives = λ _. None })
unfolding rule opt_expr_rule
no_opt_expr c known = pick (empty None) (λ t. at_semicolon (empty None) (Some opt_expr_row)) (λ at. empty None) c (kinds.Mark m.Semicolon) known (λ t. refl)

pub opt_expr : (c : Ahead) → length c.rest ≢ 0 → next_kind c ≢ Some (kinds.Mark m.Semicolon) → rule f.opt_expr (front c.rest) ≡ Some opt_expr_row
unfolding rule opt_expr_rule
opt_expr c more gone = but (empty None) (λ t. at_semicolon (empty None) (Some opt_expr_row)) (Some opt_expr_row) c more
    (λ t k known. not_semicolon (empty None) (Some opt_expr_row) k (differs c k (kinds.Mark m.Semicolon) known gone))

abbrev opt_simple_by : Kind → Rules f.opt_simple
opt_simple_by (kinds.Mark m.Semicolon) = empty None
opt_simple_by (kinds.Mark m.ParenClose) = empty None
opt_simple_by _ = Some opt_simple_row

simple_other : (k : Kind) → k ≢ kinds.Mark m.Semicolon → k ≢ kinds.Mark m.ParenClose → opt_simple_by k ≡ Some opt_simple_row
simple_other (kinds.Mark m.Semicolon) not_semi not_close = absurd (not_semi refl)
simple_other (kinds.Mark m.ParenClose) not_semi not_close = absurd (not_close refl)
simple_other _ not_semi not_close = refl

pub opt_simple_end : (c : Ahead) → length c.rest ≡ 0 → rule f.opt_simple (front c.rest) ≡ Some (record { row = []; gives = λ _. None })
unfolding rule opt_simple_rule
opt_simple_end c none = rw (no_front c none) refl

pub no_simple_semicolon : (c : Ahead) → next_kind c ≡ Some (kinds.Mark m.Semicolon) → rule f.opt_simple (front c.rest) ≡ Some (record { row = []; gives = λ _. None })
unfolding rule opt_simple_rule
no_simple_semicolon c known = pick (empty None) (λ t. opt_simple_by) (λ at. empty None) c (kinds.Mark m.Semicolon) known (λ t. refl)

pub no_simple_round : (c : Ahead) → next_kind c ≡ Some (kinds.Mark m.ParenClose) → rule f.opt_simple (front c.rest) ≡ Some (record { row = []; gives = λ _. None })
unfolding rule opt_simple_rule
no_simple_round c known = pick (empty None) (λ t. opt_simple_by) (λ at. empty None) c (kinds.Mark m.ParenClose) known (λ t. refl)

pub opt_simple : (c : Ahead) → length c.rest ≢ 0 → next_kind c ≢ Some (kinds.Mark m.Semicolon) → next_kind c ≢ Some (kinds.Mark m.ParenClose)
    → rule f.opt_simple (front c.rest) ≡ Some opt_simple_row
unfolding rule opt_simple_rule
opt_simple c more not_semi not_close = but (empty None) (λ t. opt_simple_by) (Some opt_simple_row) c more
    (λ t k known. simple_other k (differs c k (kinds.Mark m.Semicolon) known not_semi) (differs c k (kinds.Mark m.ParenClose) known not_close))

-- steps and assignments

pub found_step : (c : Ahead) (way : Step) → Some way ≡ option_and_then step (next_kind c) → (k : Kind) × (next_kind c ≡ Some k) × (step k ≡ Some way)
found_step c way is = at (next_kind c) is
  where
    at : (o : Option Kind) → Some way ≡ option_and_then step o → (k : Kind) × (o ≡ Some k) × (step k ≡ Some way)
    at None is = absurd cc
    at (Some k) is = (k, refl, sym is)

pub found_assign : (c : Ahead) (a : Assign) → Some a ≡ option_and_then assign_mark (next_kind c) → (k : Kind) × (next_kind c ≡ Some k) × (assign_mark k ≡ Some a)
found_assign c a is = at (next_kind c) is
  where
    at : (o : Option Kind) → Some a ≡ option_and_then assign_mark o → (k : Kind) × (o ≡ Some k) × (assign_mark k ≡ Some a)
    at None is = absurd cc
    at (Some k) is = (k, refl, sym is)

pub simple_none : (c : Ahead) → length c.rest ≡ 0 → rule f.simple (front c.rest) ≡ None
unfolding rule simple_rule
simple_none c none = rw (no_front c none) refl

pub before : (c : Ahead) (k : Kind) (way : Step) → next_kind c ≡ Some k → step k ≡ Some way
    → rule f.simple (front c.rest) ≡ Some (record { row = mark k ∷ form f.target ∷ []; gives = λ (to, _). simple.Before (place_at c) way to })
unfolding rule simple_rule
before c k way known is = at c.end c.rest known
  where
    at : (end : Place) (ts : List Placed) → option_map kind (front ts) ≡ Some k
        → rule f.simple (front ts) ≡ Some (record { row = mark k ∷ form f.target ∷ []; gives = λ (to, _). simple.Before (place_before end ts) way to })
    at end [] known = absurd cc
    at end (t ∷ tail) known = let of : kind t ≡ k = cc in rw of (rw is refl)

pub behind : (c : Ahead) → length c.rest ≢ 0 → None ≡ option_and_then step (next_kind c)
    → rule f.simple (front c.rest) ≡ Some (record { row = form f.target ∷ form f.simple_tail ∷ []; gives = λ (to, (tail, _)). tail to })
unfolding rule simple_rule
behind c more is = at c.rest more is
  where
    at : (ts : List Placed) → length ts ≢ 0 → None ≡ option_and_then step (option_map kind (front ts))
        → rule f.simple (front ts) ≡ Some (record { row = form f.target ∷ form f.simple_tail ∷ []; gives = λ (to, (tail, _)). tail to })
    at [] more is = absurd (more refl)
    at (t ∷ tail) more is = rw (← is) refl

pub tail_none : (c : Ahead) → length c.rest ≡ 0 → rule f.simple_tail (front c.rest) ≡ None
unfolding rule simple_tail_rule
tail_none c none = rw (no_front c none) refl

pub after : (c : Ahead) (k : Kind) (way : Step) → next_kind c ≡ Some k → step k ≡ Some way
    → rule f.simple_tail (front c.rest) ≡ Some (record { row = mark k ∷ []; gives = λ _ to. simple.After to.name.place to way })
unfolding rule simple_tail_rule
after c k way known is = at c.rest known
  where
    at : (ts : List Placed) → option_map kind (front ts) ≡ Some k
        → rule f.simple_tail (front ts) ≡ Some (record { row = mark k ∷ []; gives = λ _ to. simple.After to.name.place to way })
    at [] known = absurd cc
    at (t ∷ tail) known = let of : kind t ≡ k = cc in rw of (rw is refl)

pub assigned : (c : Ahead) → length c.rest ≢ 0 → None ≡ option_and_then step (next_kind c)
    → rule f.simple_tail (front c.rest) ≡ Some (record { row = form f.assign ∷ form f.expr ∷ []; gives = λ (a, (v, _)) to. simple.Assign to.name.place to a v })
unfolding rule simple_tail_rule
assigned c more is = at c.rest more is
  where
    at : (ts : List Placed) → length ts ≢ 0 → None ≡ option_and_then step (option_map kind (front ts))
        → rule f.simple_tail (front ts) ≡ Some (record { row = form f.assign ∷ form f.expr ∷ []; gives = λ (a, (v, _)) to. simple.Assign to.name.place to a v })
    at [] more is = absurd (more refl)
    at (t ∷ tail) more is = rw (← is) refl

pub assign_is : (c : Ahead) (k : Kind) (a : Assign) → next_kind c ≡ Some k → assign_mark k ≡ Some a
    → rule f.assign (front c.rest) ≡ Some (record { row = mark k ∷ []; gives = λ _. a })
unfolding rule assign_rule
assign_is c k a known is = at c.rest known
  where
    at : (ts : List Placed) → option_map kind (front ts) ≡ Some k → rule f.assign (front ts) ≡ Some (record { row = mark k ∷ []; gives = λ _. a })
    at [] known = absurd cc
    at (t ∷ tail) known = let of : kind t ≡ k = cc in rw of (rw is refl)

pub no_assign_is : (c : Ahead) → None ≡ option_and_then assign_mark (next_kind c) → rule f.assign (front c.rest) ≡ None
unfolding rule assign_rule
no_assign_is c is = at c.rest is
  where
    at : (ts : List Placed) → None ≡ option_and_then assign_mark (option_map kind (front ts)) → rule f.assign (front ts) ≡ None
    at [] is = refl
    at (t ∷ tail) is = rw (← is) refl

-- ---- signals and channels

abbrev pub in_angles_row : Rule Kind Gives f.boxed
in_angles_row = record { row = sign m.Less ∷ form f.type ∷ sign m.Greater ∷ []; gives = λ (of, _). InAngles of }

abbrev pub bare_row : Rule Kind Gives f.boxed
bare_row = record { row = form f.type ∷ []; gives = λ (of, _). Bare of }

pub boxed_none : (c : Ahead) → length c.rest ≡ 0 → rule f.boxed (front c.rest) ≡ None
unfolding rule boxed_rule
boxed_none c none = rw (no_front c none) refl

pub in_angles : (c : Ahead) → next_kind c ≡ Some (kinds.Mark m.Less) → rule f.boxed (front c.rest) ≡ Some in_angles_row
unfolding rule boxed_rule
in_angles c known = pick None (λ t. at_less (Some in_angles_row) (Some bare_row)) (λ at. Some in_angles_row) c (kinds.Mark m.Less) known (λ t. refl)

pub bare : (c : Ahead) → length c.rest ≢ 0 → next_kind c ≢ Some (kinds.Mark m.Less) → rule f.boxed (front c.rest) ≡ Some bare_row
unfolding rule boxed_rule
bare c more gone = but None (λ t. at_less (Some in_angles_row) (Some bare_row)) (Some bare_row) c more
    (λ t k known. not_less (Some in_angles_row) (Some bare_row) k (differs c k (kinds.Mark m.Less) known gone))

abbrev pub sig_row : Rule Kind Gives f.sig
sig_row = record { row = form f.name ∷ form f.sig_tail ∷ []; gives = λ (x, (v, _)). record { name = x; unset = v } }

pub sig : (c : Ahead) → length c.rest ≢ 0 → rule f.sig (front c.rest) ≡ Some sig_row
unfolding rule sig_rule
sig c more = any (Some sig_row) c more

pub sig_none : (c : Ahead) → length c.rest ≡ 0 → rule f.sig (front c.rest) ≡ None
unfolding rule sig_rule
sig_none c none = rw (no_front c none) refl

abbrev pub sig_tail_row : Rule Kind Gives f.sig_tail
sig_tail_row = record { row = sign m.Assign ∷ form f.expr ∷ []; gives = λ (v, _). Some v }

pub sig_tail : (c : Ahead) → next_kind c ≡ Some (kinds.Mark m.Assign) → rule f.sig_tail (front c.rest) ≡ Some sig_tail_row
unfolding rule sig_tail_rule
sig_tail c known = assign (Some sig_tail_row) (empty None) c known

pub no_sig_tail : (c : Ahead) → next_kind c ≢ Some (kinds.Mark m.Assign) → rule f.sig_tail (front c.rest) ≡ Some (record { row = []; gives = λ _. None })
unfolding rule sig_tail_rule
no_sig_tail c gone = no_assign (Some sig_tail_row) (empty None) c gone

abbrev pub more_sigs_row : Rule Kind Gives f.more_sigs
more_sigs_row = record { row = sign m.Comma ∷ form f.sig ∷ form f.more_sigs ∷ []; gives = λ (s, (more, _)). s ∷ more }

pub more_sigs : (c : Ahead) → next_kind c ≡ Some (kinds.Mark m.Comma) → rule f.more_sigs (front c.rest) ≡ Some more_sigs_row
unfolding rule more_sigs_rule
more_sigs c known = comma (Some more_sigs_row) (empty []) c known

pub no_more_sigs : (c : Ahead) → next_kind c ≢ Some (kinds.Mark m.Comma) → rule f.more_sigs (front c.rest) ≡ Some (record { row = []; gives = λ _. [] })
unfolding rule more_sigs_rule
no_more_sigs c gone = no_comma (Some more_sigs_row) (empty []) c gone

-- ---- registers and arrays

abbrev pub vars_tail_row : (init : Bool) → Rule Kind Gives (f.vars_tail init)
vars_tail_row init = record { row = form f.type ∷ form (f.var init) ∷ form (f.more_vars init) ∷ form f.with ∷ sign m.Semicolon ∷ []; gives = λ (of, (v, (more, (w, _)))) at is_static. d.Vars at is_static of (v ∷ more) w }

pub vars_tail : (init : Bool) (c : Ahead) → length c.rest ≢ 0 → rule (f.vars_tail init) (front c.rest) ≡ Some (vars_tail_row init)
unfolding rule vars_tail_rule
vars_tail init c more = any (Some (vars_tail_row init)) c more

pub vars_tail_none : (init : Bool) (c : Ahead) → length c.rest ≡ 0 → rule (f.vars_tail init) (front c.rest) ≡ None
unfolding rule vars_tail_rule
vars_tail_none init c none = rw (no_front c none) refl

abbrev pub more_vars_row : (init : Bool) → Rule Kind Gives (f.more_vars init)
more_vars_row init = record { row = sign m.Comma ∷ form (f.var init) ∷ form (f.more_vars init) ∷ []; gives = λ (v, (more, _)). v ∷ more }

pub more_vars : (init : Bool) (c : Ahead) → next_kind c ≡ Some (kinds.Mark m.Comma) → rule (f.more_vars init) (front c.rest) ≡ Some (more_vars_row init)
unfolding rule more_vars_rule
more_vars init c known = comma (Some (more_vars_row init)) (empty []) c known

pub no_more_vars : (init : Bool) (c : Ahead) → next_kind c ≢ Some (kinds.Mark m.Comma) → rule (f.more_vars init) (front c.rest) ≡ Some (record { row = []; gives = λ _. [] })
unfolding rule more_vars_rule
no_more_vars init c gone = no_comma (Some (more_vars_row init)) (empty []) c gone

abbrev pub var_row : (init : Bool) → Rule Kind Gives (f.var init)
var_row init = record { row = form f.name ∷ form (f.var_tail init) ∷ []; gives = λ (x, (tail, _)). tail x }

pub var : (init : Bool) (c : Ahead) → length c.rest ≢ 0 → rule (f.var init) (front c.rest) ≡ Some (var_row init)
unfolding rule var_rule
var init c more = any (Some (var_row init)) c more

pub var_none : (init : Bool) (c : Ahead) → length c.rest ≡ 0 → rule (f.var init) (front c.rest) ≡ None
unfolding rule var_rule
var_none init c none = rw (no_front c none) refl

abbrev pub array_row : (init : Bool) → f.Initial → Rule Kind Gives (f.var_tail init)
array_row init i = record { row = sign m.BracketOpen ∷ form f.expr ∷ sign m.BracketClose ∷ form (f.mem_init i) ∷ []; gives = λ (n, (values, _)) x. Array (record { name = x; length = n; init = values }) }

abbrev pub value_row : Rule Kind Gives (f.var_tail true)
value_row = record { row = sign m.Assign ∷ form f.expr ∷ []; gives = λ (v, _) x. Register x (Some v) }

abbrev var_by : Kind → Rules (f.var_tail true)
var_by (kinds.Mark m.BracketOpen) = Some (array_row true f.Maybe)
var_by (kinds.Mark m.Assign) = Some value_row
var_by _ = empty (λ x. Register x None)

var_other : (k : Kind) → k ≢ kinds.Mark m.BracketOpen → k ≢ kinds.Mark m.Assign → var_by k ≡ empty (λ x. Register x None)
var_other (kinds.Mark m.BracketOpen) not_open not_assign = absurd (not_open refl)
var_other (kinds.Mark m.Assign) not_open not_assign = absurd (not_assign refl)
var_other _ not_open not_assign = refl

array_of : (init : Bool) (c : Ahead) → next_kind c ≡ Some (kinds.Mark m.BracketOpen) → rule (f.var_tail init) (front c.rest) ≡ Some (array_row init (allowed init))
unfolding rule var_tail_rule
array_of true c known = pick (empty (λ x. Register x None)) (λ t. var_by) (λ at. Some (array_row true f.Maybe)) c (kinds.Mark m.BracketOpen) known (λ t. refl)
array_of false c known = square (Some (array_row false f.Never)) (empty (λ x. Register x None)) c known

pub array : (init : Bool) (i : f.Initial) → i ≡ allowed init → (c : Ahead) → next_kind c ≡ Some (kinds.Mark m.BracketOpen)
    → rule (f.var_tail init) (front c.rest) ≡ Some (array_row init i)
array init i is c known = subst (λ i. rule (f.var_tail init) (front c.rest) ≡ Some (array_row init i)) (sym is) (array_of init c known)

pub no_value : (init : Bool) (c : Ahead) → init ≡ false → next_kind c ≢ Some (kinds.Mark m.BracketOpen)
    → rule (f.var_tail init) (front c.rest) ≡ Some (record { row = []; gives = λ _ x. Register x None })
unfolding rule var_tail_rule
no_value true c is not_open = absurd cc
no_value false c is not_open = no_square (Some (array_row false f.Never)) (empty (λ x. Register x None)) c not_open

pub no_assigned : (init : Bool) (c : Ahead) → init ≡ true → next_kind c ≢ Some (kinds.Mark m.BracketOpen) → next_kind c ≢ Some (kinds.Mark m.Assign)
    → rule (f.var_tail init) (front c.rest) ≡ Some (record { row = []; gives = λ _ x. Register x None })
unfolding rule var_tail_rule
no_assigned true c is not_open not_assign = fall (empty (λ x. Register x None)) (λ t. var_by) (empty (λ x. Register x None)) c refl
    (λ t k known. var_other k (differs c k (kinds.Mark m.BracketOpen) known not_open) (differs c k (kinds.Mark m.Assign) known not_assign))
no_assigned false c is not_open not_assign = absurd cc

pub value_of : (init : Bool) (c : Ahead) → init ≡ true → next_kind c ≡ Some (kinds.Mark m.Assign)
    → rule (f.var_tail init) (front c.rest) ≡ Some (record { row = sign m.Assign ∷ form f.expr ∷ []; gives = λ (v, _) x. Register x (Some v) })
unfolding rule var_tail_rule
value_of true c is known = pick (empty (λ x. Register x None)) (λ t. var_by) (λ at. Some value_row) c (kinds.Mark m.Assign) known (λ t. refl)
value_of false c is known = absurd cc

-- ---- memories

abbrev pub memories_tail_row : (i : f.Initial) → Rule Kind Gives (f.memories_tail i)
memories_tail_row i = record { row = form f.type ∷ form (f.mem i) ∷ form (f.more_mems i) ∷ form f.with ∷ sign m.Semicolon ∷ []; gives = λ (of, (x, (more, (w, _)))) at is_static memory. d.Memories at is_static memory of (x ∷ more) w }

pub memories_tail : (i : f.Initial) (c : Ahead) → length c.rest ≢ 0 → rule (f.memories_tail i) (front c.rest) ≡ Some (memories_tail_row i)
unfolding rule memories_tail_rule
memories_tail i c more = any (Some (memories_tail_row i)) c more

pub memories_tail_none : (i : f.Initial) (c : Ahead) → length c.rest ≡ 0 → rule (f.memories_tail i) (front c.rest) ≡ None
unfolding rule memories_tail_rule
memories_tail_none i c none = rw (no_front c none) refl

abbrev pub more_mems_row : (i : f.Initial) → Rule Kind Gives (f.more_mems i)
more_mems_row i = record { row = sign m.Comma ∷ form (f.mem i) ∷ form (f.more_mems i) ∷ []; gives = λ (x, (more, _)). x ∷ more }

pub more_mems : (i : f.Initial) (c : Ahead) → next_kind c ≡ Some (kinds.Mark m.Comma) → rule (f.more_mems i) (front c.rest) ≡ Some (more_mems_row i)
unfolding rule more_mems_rule
more_mems i c known = comma (Some (more_mems_row i)) (empty []) c known

pub no_more_mems : (i : f.Initial) (c : Ahead) → next_kind c ≢ Some (kinds.Mark m.Comma) → rule (f.more_mems i) (front c.rest) ≡ Some (record { row = []; gives = λ _. [] })
unfolding rule more_mems_rule
no_more_mems i c gone = no_comma (Some (more_mems_row i)) (empty []) c gone

abbrev pub mem_row : (i : f.Initial) → Rule Kind Gives (f.mem i)
mem_row i = record { row = form f.name ∷ sign m.BracketOpen ∷ form f.expr ∷ sign m.BracketClose ∷ form (f.mem_init i) ∷ []; gives = λ (x, (n, (values, _))). record { name = x; length = n; init = values } }

pub mem : (i : f.Initial) (c : Ahead) → length c.rest ≢ 0 → rule (f.mem i) (front c.rest) ≡ Some (mem_row i)
unfolding rule mem_rule
mem i c more = any (Some (mem_row i)) c more

pub mem_none : (i : f.Initial) (c : Ahead) → length c.rest ≡ 0 → rule (f.mem i) (front c.rest) ≡ None
unfolding rule mem_rule
mem_none i c none = rw (no_front c none) refl

abbrev pub values_row : (i : f.Initial) → Rule Kind Gives (f.mem_init i)
values_row i = record { row = sign m.Assign ∷ sign m.BraceOpen ∷ form f.expr ∷ form f.more_exprs ∷ sign m.BraceClose ∷ []; gives = λ (v, (more, _)). Some (v ∷ more) }

pub no_values : (i : Initial) (c : Ahead) → HasNone i (next_kind c) → rule (f.mem_init (initial i)) (front c.rest) ≡ Some (record { row = []; gives = λ _. None })
unfolding rule mem_init_rule
no_values initials.Never c none = fall (empty None) (λ t k. empty None) (empty None) c refl (λ t k known. refl)
no_values initials.Maybe c none = no_assign (Some (values_row f.Maybe)) (empty None) c none
no_values initials.Always c none = absurd none

pub values : (i : Initial) (c : Ahead) → HasValues i (next_kind c) → next_kind c ≡ Some (kinds.Mark m.Assign)
    → rule (f.mem_init (initial i)) (front c.rest) ≡ Some (values_row (initial i))
unfolding rule mem_init_rule
values initials.Never c has known = absurd has
values initials.Maybe c has known = assign (Some (values_row f.Maybe)) (empty None) c known
values initials.Always c has known = pick None (λ t k. Some (values_row f.Always)) (λ at. Some (values_row f.Always)) c (kinds.Mark m.Assign) known (λ t. refl)

halts_front : {x : Form} {old : Ahead} → rule x (front old.rest) ≡ None → (new : Ahead) → new ≡ old → (halt : Halt) → Halts x old halt new
halts_front none new same (Refused last) = refused_front none new same last
halts_front none new same NoMemory = tt

always_refused : (now new : Ahead) (halt : Halt) → MarkRead (kinds.Mark m.Assign) now new (Err halt) → Halts (f.mem_init f.Always) now halt new
unfolding rule mem_init_rule
always_refused now new halt missing = at now.rest refl
  where
    at : (ts : List Placed) → now.rest ≡ ts → Halts (f.mem_init f.Always) now halt new
    at [] is = let gone = mark_missing (kinds.Mark m.Assign) now new halt missing in halts_front (ap (λ ts. rule (f.mem_init f.Always) (front ts)) is) new gone.0 halt
    at (t ∷ tail) is = refused_mark (start {r = values_row f.Always} now (ap (λ ts. rule (f.mem_init f.Always) (front ts)) is)) new halt missing

pub values_refused : (i : Initial) (now new : Ahead) (halt : Halt) → HasValues i (next_kind now) → MarkRead (kinds.Mark m.Assign) now new (Err halt)
    → Halts (f.mem_init (initial i)) now halt new
values_refused initials.Never now new halt has missing = absurd has
values_refused initials.Maybe now new halt has missing = absurd ((mark_missing (kinds.Mark m.Assign) now new halt missing).1 has)
values_refused initials.Always now new halt has missing = always_refused now new halt missing

-- ---- declarations

abbrev pub static_row : (local : Bool) → Place → Rule Kind Gives (f.decl local)
static_row local at = record { row = mark kinds.Static ∷ form f.static_tail ∷ []; gives = λ (tail, _). tail at }

abbrev pub ram_row : (local : Bool) → f.Initial → Place → Rule Kind Gives (f.decl local)
ram_row local i at = record { row = mark kinds.Ram ∷ form (f.memories_tail i) ∷ []; gives = λ (tail, _). tail at false Ram }

abbrev pub rom_row : (local : Bool) → Place → Rule Kind Gives (f.decl local)
rom_row local at = record { row = mark kinds.Rom ∷ form (f.memories_tail f.Always) ∷ []; gives = λ (tail, _). tail at false Rom }

abbrev pub signals_row : (local : Bool) → Place → Rule Kind Gives (f.decl local)
signals_row local at = record { row = mark kinds.Signal ∷ form f.boxed ∷ form f.sig ∷ form f.more_sigs ∷ form f.with ∷ sign m.Semicolon ∷ []; gives = λ (of, (s, (more, (w, _)))). d.Signals at of (s ∷ more) w }

abbrev pub chans_row : (local : Bool) → Place → Rule Kind Gives (f.decl local)
chans_row local at = record { row = mark kinds.Chan ∷ form f.boxed ∷ form f.name ∷ form f.more_names ∷ form f.with ∷ sign m.Semicolon ∷ []; gives = λ (of, (x, (more, (w, _)))). d.Chans at of (x ∷ more) w }

abbrev pub vars_row : (local : Bool) → Bool → Place → Rule Kind Gives (f.decl local)
vars_row local init at = record { row = form (f.vars_tail init) ∷ []; gives = λ (tail, _). tail at false }

abbrev other_decl : (local : Bool) → Place → Kind → Rules (f.decl local)
other_decl local at kind = if begins_type kind then Some (vars_row local (not local) at) else None

abbrev decl_by : (local : Bool) → Placed → Kind → Rules (f.decl local)
decl_by local t kinds.Static = Some (static_row local t.place)
decl_by local t kinds.Ram = Some (ram_row local (allowed (not local)) t.place)
decl_by local t kinds.Rom = Some (rom_row local t.place)
decl_by local t kinds.Signal = Some (signals_row local t.place)
decl_by local t kinds.Chan = Some (chans_row local t.place)
decl_by local t kind = other_decl local t.place kind

decl_other : (local : Bool) (t : Placed) (k : Kind) → k ≢ kinds.Static → k ≢ kinds.Ram → k ≢ kinds.Rom → k ≢ kinds.Signal → k ≢ kinds.Chan
    → decl_by local t k ≡ other_decl local t.place k
decl_other local t kinds.Static a b e g h = absurd (a refl)
decl_other local t kinds.Ram a b e g h = absurd (b refl)
decl_other local t kinds.Rom a b e g h = absurd (e refl)
decl_other local t kinds.Signal a b e g h = absurd (g refl)
decl_other local t kinds.Chan a b e g h = absurd (h refl)
decl_other local t _ a b e g h = refl

pub static_decl : (local : Bool) (c : Ahead) → next_kind c ≡ Some kinds.Static → rule (f.decl local) (front c.rest) ≡ Some (static_row local (place_at c))
unfolding rule decl_rule
static_decl local c known = pick None (decl_by local) (λ at. Some (static_row local at)) c kinds.Static known (λ t. refl)

ram_of : (local : Bool) (c : Ahead) → next_kind c ≡ Some kinds.Ram → rule (f.decl local) (front c.rest) ≡ Some (ram_row local (allowed (not local)) (place_at c))
unfolding rule decl_rule
ram_of local c known = pick None (decl_by local) (λ at. Some (ram_row local (allowed (not local)) at)) c kinds.Ram known (λ t. refl)

pub ram : (local : Bool) (i : f.Initial) → i ≡ allowed (not local) → (c : Ahead) → next_kind c ≡ Some kinds.Ram
    → rule (f.decl local) (front c.rest) ≡ Some (ram_row local i (place_at c))
ram local i is c known = subst (λ i. rule (f.decl local) (front c.rest) ≡ Some (ram_row local i (place_at c))) (sym is) (ram_of local c known)

pub rom : (local : Bool) (c : Ahead) → next_kind c ≡ Some kinds.Rom → rule (f.decl local) (front c.rest) ≡ Some (rom_row local (place_at c))
unfolding rule decl_rule
rom local c known = pick None (decl_by local) (λ at. Some (rom_row local at)) c kinds.Rom known (λ t. refl)

pub signals : (local : Bool) (c : Ahead) → next_kind c ≡ Some kinds.Signal → rule (f.decl local) (front c.rest) ≡ Some (signals_row local (place_at c))
unfolding rule decl_rule
signals local c known = pick None (decl_by local) (λ at. Some (signals_row local at)) c kinds.Signal known (λ t. refl)

pub chans : (local : Bool) (c : Ahead) → next_kind c ≡ Some kinds.Chan → rule (f.decl local) (front c.rest) ≡ Some (chans_row local (place_at c))
unfolding rule decl_rule
chans local c known = pick None (decl_by local) (λ at. Some (chans_row local at)) c kinds.Chan known (λ t. refl)

-- the first token begins a type
type_kind : (c : Ahead) → option_map begins_type (next_kind c) ≡ Some true → (k : Kind) × (next_kind c ≡ Some k) × (begins_type k ≡ true)
type_kind c is = at (next_kind c) is
  where
    at : (o : Option Kind) → option_map begins_type o ≡ Some true → (k : Kind) × (o ≡ Some k) × (begins_type k ≡ true)
    at None is = absurd cc
    at (Some k) is = (k, refl, cc)

-- it doesn't
no_type_kind : (c : Ahead) (k : Kind) → next_kind c ≡ Some k → option_map begins_type (next_kind c) ≢ Some true → begins_type k ≡ false
no_type_kind c k known gone = at (begins_type k) refl
  where
    at : (b : Bool) → begins_type k ≡ b → begins_type k ≡ false
    at true is = absurd (gone (ap (option_map begins_type) known ∙ ap Some is))
    at false is = is

pub vars : (local init : Bool) (c : Ahead) → init ≡ not local → option_map begins_type (next_kind c) ≡ Some true
    → rule (f.decl local) (front c.rest) ≡ Some (vars_row local init (place_at c))
unfolding rule decl_rule begins_type
vars local init c is typed =
    let k = type_kind c typed in
    subst (λ i. rule (f.decl local) (front c.rest) ≡ Some (vars_row local i (place_at c))) (sym is)
    (pick None (decl_by local) (λ at. Some (vars_row local (not local) at)) c k.0 k.1 (λ t. vars_by local t k.0 k.2))
  where
    vars_by : (local : Bool) (t : Placed) (k : Kind) → begins_type k ≡ true → decl_by local t k ≡ Some (vars_row local (not local) t.place)
    vars_by local t kinds.Unsigned is = refl
    vars_by local t kinds.Signed is = refl
    vars_by local t kinds.Int is = refl
    vars_by local t _ is = absurd cc

pub no_decl : (local : Bool) (c : Ahead) → next_kind c ≢ Some kinds.Static → next_kind c ≢ Some kinds.Ram → next_kind c ≢ Some kinds.Rom → next_kind c ≢ Some kinds.Signal
    → next_kind c ≢ Some kinds.Chan → option_map begins_type (next_kind c) ≢ Some true → rule (f.decl local) (front c.rest) ≡ None
unfolding rule decl_rule
no_decl local c a b e g h gone = fall None (decl_by local) None c refl (λ t k known.
    decl_other local t k (differs c k kinds.Static known a) (differs c k kinds.Ram known b) (differs c k kinds.Rom known e) (differs c k kinds.Signal known g) (differs c k kinds.Chan known h)
    ∙ ap (λ b. if b then Some (vars_row local (not local) t.place) else None) (no_type_kind c k known gone))

abbrev pub static_ram_row : Rule Kind Gives f.static_tail
static_ram_row = record { row = mark kinds.Ram ∷ form (f.memories_tail f.Maybe) ∷ []; gives = λ (tail, _) at. tail at true Ram }

abbrev pub static_rom_row : Rule Kind Gives f.static_tail
static_rom_row = record { row = mark kinds.Rom ∷ form (f.memories_tail f.Always) ∷ []; gives = λ (tail, _) at. tail at true Rom }

abbrev pub static_vars_row : Rule Kind Gives f.static_tail
static_vars_row = record { row = form (f.vars_tail true) ∷ []; gives = λ (tail, _) at. tail at true }

abbrev static_by : Kind → Rules f.static_tail
static_by kinds.Ram = Some static_ram_row
static_by kinds.Rom = Some static_rom_row
static_by kind = if begins_type kind then Some static_vars_row else None

static_other : (k : Kind) → k ≢ kinds.Ram → k ≢ kinds.Rom → static_by k ≡ (if begins_type k then Some static_vars_row else None)
static_other kinds.Ram not_ram not_rom = absurd (not_ram refl)
static_other kinds.Rom not_ram not_rom = absurd (not_rom refl)
static_other _ not_ram not_rom = refl

pub static_ram : (c : Ahead) → next_kind c ≡ Some kinds.Ram → rule f.static_tail (front c.rest) ≡ Some static_ram_row
unfolding rule static_tail_rule
static_ram c known = pick None (λ t. static_by) (λ at. Some static_ram_row) c kinds.Ram known (λ t. refl)

pub static_rom : (c : Ahead) → next_kind c ≡ Some kinds.Rom → rule f.static_tail (front c.rest) ≡ Some static_rom_row
unfolding rule static_tail_rule
static_rom c known = pick None (λ t. static_by) (λ at. Some static_rom_row) c kinds.Rom known (λ t. refl)

pub static_vars : (c : Ahead) → next_kind c ≢ Some kinds.Ram → next_kind c ≢ Some kinds.Rom → option_map begins_type (next_kind c) ≡ Some true
    → rule f.static_tail (front c.rest) ≡ Some static_vars_row
unfolding rule static_tail_rule
static_vars c not_ram not_rom typed =
    let k = type_kind c typed in
    pick None (λ t. static_by) (λ at. Some static_vars_row) c k.0 k.1
    (λ t. static_other k.0 (differs c k.0 kinds.Ram k.1 not_ram) (differs c k.0 kinds.Rom k.1 not_rom) ∙ ap (λ b. if b then Some static_vars_row else None) k.2)

pub no_static : (c : Ahead) → next_kind c ≢ Some kinds.Ram → next_kind c ≢ Some kinds.Rom → option_map begins_type (next_kind c) ≢ Some true
    → rule f.static_tail (front c.rest) ≡ None
unfolding rule static_tail_rule
no_static c not_ram not_rom gone = fall None (λ t. static_by) None c refl
    (λ t k known. static_other k (differs c k kinds.Ram known not_ram) (differs c k kinds.Rom known not_rom) ∙ ap (λ b. if b then Some static_vars_row else None) (no_type_kind c k known gone))
