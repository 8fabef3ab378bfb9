-- The rules of declarations (this project's profile of Handel-C).
use Rattle.std.specs.Prelude.{Bool, true, false, not, if◌then◌else◌, [], ◌∷◌, Option, Some, None}
use Rattle.hc_tree.specs.declared.decl.Decl.TheVariants as d
use Rattle.hc_tree.specs.declared.decl.MemoryKind.TheVariants.{Ram, Rom}
use Rattle.hc_tree.specs.declared.decl.BoxedType.TheVariants.{Bare, InAngles}
use Rattle.hc_tree.specs.declared.decl.Var.TheVariants.{Register, Array}
use Rattle.hc_tree.specs.declared.decl.SpecValue.TheVariants as value
use Rattle.hc_lex.specs.declared.mark.Mark.TheVariants as m
use Rattle.hc_lex.specs.declared.token.Placed.{Placed}
use Rattle.hc_grammar.specs.declared.kind.Kind.{Kind}
use Rattle.hc_grammar.specs.declared.kind.Kind.TheVariants as k
use Rattle.hc_grammar.specs.Table.{mark, form}
use Rattle.hc_grammar.specs.Form as f
use Rattle.hc_grammar.specs.Form.{Form, Gives, Initial, Never, Maybe, Always}
use Rattle.hc_grammar.specs.Expression.{Rules, by_front, sign, empty, begins_type}

-- whether a register or array may have a value, and a memory a list
abbrev pub allowed : Bool → Initial
allowed true = Maybe
allowed false = Never

-- What begins a declaration. In a block a value may stand only after `static`; a `rom` has its list always, and a signal
-- may have its default everywhere.
abbrev decl_by : (local : Bool) → Placed → Kind → Rules (f.decl local)
decl_by local t k.Static = Some (record { row = mark k.Static ∷ form f.static_tail ∷ []; gives = λ (tail, _). tail t.place })
decl_by local t k.Ram = Some (record { row = mark k.Ram ∷ form (f.memories_tail (allowed (not local))) ∷ []; gives = λ (tail, _). tail t.place false Ram })
decl_by local t k.Rom = Some (record { row = mark k.Rom ∷ form (f.memories_tail Always) ∷ []; gives = λ (tail, _). tail t.place false Rom })
decl_by local t k.Signal = Some (record {
  row = mark k.Signal ∷ form f.boxed ∷ form f.sig ∷ form f.more_sigs ∷ form f.with ∷ sign m.Semicolon ∷ [];
  gives = λ (of, (s, (more, (w, _)))). d.Signals t.place of (s ∷ more) w;
})
decl_by local t k.Chan = Some (record {
  row = mark k.Chan ∷ form f.boxed ∷ form f.name ∷ form f.more_names ∷ form f.with ∷ sign m.Semicolon ∷ [];
  gives = λ (of, (x, (more, (w, _)))). d.Chans t.place of (x ∷ more) w;
})
decl_by local t kind = if begins_type kind
    then Some (record { row = form (f.vars_tail (not local)) ∷ []; gives = λ (tail, _). tail t.place false }) else None

unfoldable pub decl_rule : (local : Bool) → Option Placed → Rules (f.decl local)
decl_rule local = by_front None (decl_by local)

-- behind `static`
abbrev static_by : Placed → Kind → Rules f.static_tail
static_by t k.Ram = Some (record { row = mark k.Ram ∷ form (f.memories_tail Maybe) ∷ []; gives = λ (tail, _) at. tail at true Ram })
static_by t k.Rom = Some (record { row = mark k.Rom ∷ form (f.memories_tail Always) ∷ []; gives = λ (tail, _) at. tail at true Rom })
static_by t kind = if begins_type kind
    then Some (record { row = form (f.vars_tail true) ∷ []; gives = λ (tail, _) at. tail at true }) else None

unfoldable pub static_tail_rule : Option Placed → Rules f.static_tail
static_tail_rule = by_front None static_by

-- `type var { , var } [ with ] ;`
unfoldable pub vars_tail_rule : (init : Bool) → Option Placed → Rules (f.vars_tail init)
vars_tail_rule init = by_front None (λ t kind. Some (record {
  row = form f.type ∷ form (f.var init) ∷ form (f.more_vars init) ∷ form f.with ∷ sign m.Semicolon ∷ [];
  gives = λ (of, (v, (more, (w, _)))) at is_static. d.Vars at is_static of (v ∷ more) w;
}))

abbrev more_vars_by : (init : Bool) → Placed → Kind → Rules (f.more_vars init)
more_vars_by init t (k.Mark m.Comma) = Some (record { row = sign m.Comma ∷ form (f.var init) ∷ form (f.more_vars init) ∷ []; gives = λ (v, (more, _)). v ∷ more })
more_vars_by init t _ = empty []

unfoldable pub more_vars_rule : (init : Bool) → Option Placed → Rules (f.more_vars init)
more_vars_rule init = by_front (empty []) (more_vars_by init)

unfoldable pub var_rule : (init : Bool) → Option Placed → Rules (f.var init)
var_rule init = by_front None (λ t kind. Some (record { row = form f.name ∷ form (f.var_tail init) ∷ []; gives = λ (x, (tail, _)). tail x }))

-- behind a name: a register's value, or an array's length and values
abbrev var_tail_by : (init : Bool) → Placed → Kind → Rules (f.var_tail init)
var_tail_by init t (k.Mark m.BracketOpen) = Some (record {
  row = sign m.BracketOpen ∷ form f.expr ∷ sign m.BracketClose ∷ form (f.mem_init (allowed init)) ∷ [];
  gives = λ (n, (values, _)) x. Array (record { name = x; length = n; init = values });
})
var_tail_by true t (k.Mark m.Assign) = Some (record { row = sign m.Assign ∷ form f.expr ∷ []; gives = λ (v, _) x. Register x (Some v) })
var_tail_by init t _ = empty (λ x. Register x None)

unfoldable pub var_tail_rule : (init : Bool) → Option Placed → Rules (f.var_tail init)
var_tail_rule init = by_front (empty (λ x. Register x None)) (var_tail_by init)

-- `type mem { , mem } [ with ] ;`
unfoldable pub memories_tail_rule : (init : Initial) → Option Placed → Rules (f.memories_tail init)
memories_tail_rule init = by_front None (λ t kind. Some (record {
  row = form f.type ∷ form (f.mem init) ∷ form (f.more_mems init) ∷ form f.with ∷ sign m.Semicolon ∷ [];
  gives = λ (of, (x, (more, (w, _)))) at is_static memory. d.Memories at is_static memory of (x ∷ more) w;
}))

unfoldable pub mem_rule : (init : Initial) → Option Placed → Rules (f.mem init)
mem_rule init = by_front None (λ t kind. Some (record {
  row = form f.name ∷ sign m.BracketOpen ∷ form f.expr ∷ sign m.BracketClose ∷ form (f.mem_init init) ∷ [];
  gives = λ (x, (n, (values, _))). record { name = x; length = n; init = values };
}))

abbrev more_mems_by : (init : Initial) → Placed → Kind → Rules (f.more_mems init)
more_mems_by init t (k.Mark m.Comma) = Some (record { row = sign m.Comma ∷ form (f.mem init) ∷ form (f.more_mems init) ∷ []; gives = λ (x, (more, _)). x ∷ more })
more_mems_by init t _ = empty []

unfoldable pub more_mems_rule : (init : Initial) → Option Placed → Rules (f.more_mems init)
more_mems_rule init = by_front (empty []) (more_mems_by init)

-- `[ = { expr { , expr } } ]`, where the outer braces are written
abbrev values : (init : Initial) → Rules (f.mem_init init)
values init = Some (record {
  row = sign m.Assign ∷ sign m.BraceOpen ∷ form f.expr ∷ form f.more_exprs ∷ sign m.BraceClose ∷ [];
  gives = λ (v, (more, _)). Some (v ∷ more);
})

abbrev mem_init_by : (init : Initial) → Placed → Kind → Rules (f.mem_init init)
mem_init_by Maybe t (k.Mark m.Assign) = values Maybe
mem_init_by Always t kind = values Always
mem_init_by init t _ = empty None

abbrev no_values : (init : Initial) → Rules (f.mem_init init)
no_values Always = None
no_values Never = empty None
no_values Maybe = empty None

unfoldable pub mem_init_rule : (init : Initial) → Option Placed → Rules (f.mem_init init)
mem_init_rule init = by_front (no_values init) (mem_init_by init)

-- ---- signals and channels

abbrev boxed_by : Placed → Kind → Rules f.boxed
boxed_by t (k.Mark m.Less) = Some (record { row = sign m.Less ∷ form f.type ∷ sign m.Greater ∷ []; gives = λ (of, _). InAngles of })
boxed_by t _ = Some (record { row = form f.type ∷ []; gives = λ (of, _). Bare of })

unfoldable pub boxed_rule : Option Placed → Rules f.boxed
boxed_rule = by_front None boxed_by

unfoldable pub sig_rule : Option Placed → Rules f.sig
sig_rule = by_front None (λ t kind. Some (record { row = form f.name ∷ form f.sig_tail ∷ []; gives = λ (x, (v, _)). record { name = x; unset = v } }))

abbrev sig_tail_by : Placed → Kind → Rules f.sig_tail
sig_tail_by t (k.Mark m.Assign) = Some (record { row = sign m.Assign ∷ form f.expr ∷ []; gives = λ (v, _). Some v })
sig_tail_by t _ = empty None

unfoldable pub sig_tail_rule : Option Placed → Rules f.sig_tail
sig_tail_rule = by_front (empty None) sig_tail_by

abbrev more_sigs_by : Placed → Kind → Rules f.more_sigs
more_sigs_by t (k.Mark m.Comma) = Some (record { row = sign m.Comma ∷ form f.sig ∷ form f.more_sigs ∷ []; gives = λ (s, (more, _)). s ∷ more })
more_sigs_by t _ = empty []

unfoldable pub more_sigs_rule : Option Placed → Rules f.more_sigs
more_sigs_rule = by_front (empty []) more_sigs_by

abbrev more_names_by : Placed → Kind → Rules f.more_names
more_names_by t (k.Mark m.Comma) = Some (record { row = sign m.Comma ∷ form f.name ∷ form f.more_names ∷ []; gives = λ (x, (more, _)). x ∷ more })
more_names_by t _ = empty []

unfoldable pub more_names_rule : Option Placed → Rules f.more_names
more_names_rule = by_front (empty []) more_names_by

-- ---- `with` lists

abbrev with_by : Placed → Kind → Rules f.with
with_by t k.With = Some (record {
  row = mark k.With ∷ sign m.BraceOpen ∷ form f.spec ∷ form f.more_specs ∷ sign m.BraceClose ∷ [];
  gives = λ (s, (more, _)). Some (record { specs = s ∷ more });
})
with_by t _ = empty None

unfoldable pub with_rule : Option Placed → Rules f.with
with_rule = by_front (empty None) with_by

unfoldable pub spec_rule : Option Placed → Rules f.spec
spec_rule = by_front None (λ t kind. Some (record
    { row = form f.name ∷ sign m.Assign ∷ form f.spec_value ∷ []; gives = λ (x, (v, _)). record { name = x; value = v } }))

abbrev more_specs_by : Placed → Kind → Rules f.more_specs
more_specs_by t (k.Mark m.Comma) = Some (record { row = sign m.Comma ∷ form f.spec ∷ form f.more_specs ∷ []; gives = λ (s, (more, _)). s ∷ more })
more_specs_by t _ = empty []

unfoldable pub more_specs_rule : Option Placed → Rules f.more_specs
more_specs_rule = by_front (empty []) more_specs_by

abbrev spec_value_by : Placed → Kind → Rules f.spec_value
spec_value_by t k.Text = Some (record { row = form f.text ∷ []; gives = λ (text, _). value.Text text })
spec_value_by t (k.Mark m.BraceOpen) = Some (record {
  row = sign m.BraceOpen ∷ form f.text ∷ form f.more_texts ∷ sign m.BraceClose ∷ [];
  gives = λ (text, (more, _)). value.Texts (text ∷ more);
})
spec_value_by t _ = Some (record { row = form f.expr ∷ []; gives = λ (v, _). value.Expr v })

unfoldable pub spec_value_rule : Option Placed → Rules f.spec_value
spec_value_rule = by_front None spec_value_by

abbrev more_texts_by : Placed → Kind → Rules f.more_texts
more_texts_by t (k.Mark m.Comma) = Some (record { row = sign m.Comma ∷ form f.text ∷ form f.more_texts ∷ []; gives = λ (text, (more, _)). text ∷ more })
more_texts_by t _ = empty []

unfoldable pub more_texts_rule : Option Placed → Rules f.more_texts
more_texts_rule = by_front (empty []) more_texts_by
