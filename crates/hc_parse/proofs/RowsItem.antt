-- The rules of the forms of items, by what the code tests of the token at the front.
use Rattle.std.proofs.Common.{◌≡◌, ◌≢◌, ◌⊎◌, inl, inr, true, false, List, [], ◌∷◌, length, Option, Some, None, refl, ap}
use Rattle.std.specs.Prelude.{option_map}
use Rattle.hc_tree.specs.declared.item.Item.TheVariants as item
use Rattle.hc_tree.specs.declared.item.Interface.TheVariants as interface
use Rattle.hc_tree.specs.declared.place.Place.{Place}
use Rattle.hc_lex.specs.declared.mark.Mark.TheVariants as m
use Rattle.hc_lex.specs.declared.token.Placed.{Placed}
use Rattle.hc_grammar.specs.declared.kind.Kind.{Kind}
use Rattle.hc_grammar.specs.declared.kind.Kind.TheVariants as kinds
use Rattle.hc_grammar.specs.Kind.{kind}
use Rattle.hc_grammar.specs.Table.{mark, form, front}
use Rattle.hc_grammar.specs.Form as f
use Rattle.hc_grammar.specs.Form.{Form}
use Rattle.hc_grammar.specs.Expression.{Rules, sign, begins_type}
use Rattle.hc_grammar.specs.Declaration.{decl_rule}
use Rattle.hc_grammar.specs.Statement.{begins_decl}
use Rattle.hc_grammar.specs.Item.{program_rule, items_rule, item_rule, set_tail_rule, opt_void_rule, interface_tail_rule}
use Rattle.hc_grammar.specs.Grammar.{rule}
use Rattle.hc_grammar.specs.Cursor.{Ahead, place_at, place_before}
use Rattle.hc_exparse.specs.Ops.{next_kind}

-- the rule of a token at the front whose kind is known, which may tell the token's place
picked : {x : Form} (wanted : Place → Rules x) (c : Ahead) (k : Kind) → next_kind c ≡ Some k
    → ((t : Placed) → kind t ≡ k → rule x (Some t) ≡ wanted t.place) → rule x (front c.rest) ≡ wanted (place_at c)
picked {x} wanted c k known is = at c.rest known
  where
    at : (ts : List Placed) → option_map kind (front ts) ≡ Some k → rule x (front ts) ≡ wanted (place_before c.end ts)
    at [] known = absurd cc
    at (t ∷ tail) known = is t cc

-- ---- items

pub set_row : (c : Ahead) → next_kind c ≡ Some kinds.Set
    → rule f.item (front c.rest) ≡ Some (record { row = mark kinds.Set ∷ form f.set_tail ∷ []; gives = λ (tail, _). tail (place_at c) })
unfolding rule item_rule
set_row c known = picked (λ at. Some (record { row = mark kinds.Set ∷ form f.set_tail ∷ []; gives = λ (tail, _). tail at })) c kinds.Set known (λ t is. rw is refl)

pub interface_row : (c : Ahead) → next_kind c ≡ Some kinds.Interface
    → rule f.item (front c.rest) ≡ Some (record { row = mark kinds.Interface ∷ form f.interface_tail ∷ []; gives = λ (tail, _). item.Interface (tail (place_at c)) })
unfolding rule item_rule
interface_row c known = picked (λ at. Some (record { row = mark kinds.Interface ∷ form f.interface_tail ∷ []; gives = λ (tail, _). item.Interface (tail at) }))
    c kinds.Interface known (λ t is. rw is refl)

pub macro_row : (c : Ahead) → next_kind c ≡ Some kinds.Macro
    → rule f.item (front c.rest) ≡ Some (record { row = form f.macro ∷ []; gives = λ (x, _). item.Macro x })
unfolding rule item_rule
macro_row c known = picked (λ at. Some (record { row = form f.macro ∷ []; gives = λ (x, _). item.Macro x })) c kinds.Macro known (λ t is. rw is refl)

pub main_row : (c : Ahead) → next_kind c ≡ Some kinds.Void → rule f.item (front c.rest) ≡ Some (record {
  row = mark kinds.Void ∷ mark kinds.Main ∷ sign m.ParenOpen ∷ form f.opt_void ∷ sign m.ParenClose ∷ form f.block ∷ [];
  gives = λ (says_void, (body, _)). item.Main (place_at c) says_void body;
})
unfolding rule item_rule
main_row c known = picked (λ at. Some (record {
  row = mark kinds.Void ∷ mark kinds.Main ∷ sign m.ParenOpen ∷ form f.opt_void ∷ sign m.ParenClose ∷ form f.block ∷ [];
  gives = λ (says_void, (body, _)). item.Main at says_void body;
})) c kinds.Void known (λ t is. rw is refl)

-- a declaration, or no item and no declaration
abbrev pub DeclRow : Option Placed → Type 0
DeclRow o =
    (rule f.item o ≡ Some (record { row = form (f.decl false) ∷ []; gives = λ (x, _). item.Decl x }))
    ⊎ ((rule f.item o ≡ None) × (rule (f.decl false) o ≡ None))

decl_at : (t : Placed) (k : Kind) → kind t ≡ k → k ≢ kinds.Set → k ≢ kinds.Interface → k ≢ kinds.Macro → k ≢ kinds.Void → DeclRow (Some t)
unfolding rule item_rule decl_rule begins_decl begins_type
decl_at t kinds.Set is not_set not_interface not_macro not_void = absurd (not_set refl)
decl_at t kinds.Interface is not_set not_interface not_macro not_void = absurd (not_interface refl)
decl_at t kinds.Macro is not_set not_interface not_macro not_void = absurd (not_macro refl)
decl_at t kinds.Void is not_set not_interface not_macro not_void = absurd (not_void refl)
decl_at t kinds.Static is not_set not_interface not_macro not_void = inl (rw is refl)
decl_at t kinds.Ram is not_set not_interface not_macro not_void = inl (rw is refl)
decl_at t kinds.Rom is not_set not_interface not_macro not_void = inl (rw is refl)
decl_at t kinds.Signal is not_set not_interface not_macro not_void = inl (rw is refl)
decl_at t kinds.Chan is not_set not_interface not_macro not_void = inl (rw is refl)
decl_at t kinds.Unsigned is not_set not_interface not_macro not_void = inl (rw is refl)
decl_at t kinds.Signed is not_set not_interface not_macro not_void = inl (rw is refl)
decl_at t kinds.Int is not_set not_interface not_macro not_void = inl (rw is refl)
decl_at t _ is not_set not_interface not_macro not_void = inr (rw is refl, rw is refl)

pub decl_row : (c : Ahead) → next_kind c ≢ Some kinds.Set → next_kind c ≢ Some kinds.Interface → next_kind c ≢ Some kinds.Macro → next_kind c ≢ Some kinds.Void
    → DeclRow (front c.rest)
unfolding rule item_rule decl_rule
decl_row c not_set not_interface not_macro not_void = at c.rest not_set not_interface not_macro not_void
  where
    at : (ts : List Placed) → option_map kind (front ts) ≢ Some kinds.Set → option_map kind (front ts) ≢ Some kinds.Interface
        → option_map kind (front ts) ≢ Some kinds.Macro → option_map kind (front ts) ≢ Some kinds.Void → DeclRow (front ts)
    at [] a b c d = inr (refl, refl)
    at (t ∷ tail) a b c d = decl_at t (kind t) refl (λ is. a (ap Some is)) (λ is. b (ap Some is)) (λ is. c (ap Some is)) (λ is. d (ap Some is))

-- ---- behind `set`

pub clock_row : (c : Ahead) → next_kind c ≡ Some kinds.Clock → rule f.set_tail (front c.rest) ≡ Some (record {
  row = mark kinds.Clock ∷ sign m.Assign ∷ mark kinds.External ∷ form f.text ∷ form f.with ∷ sign m.Semicolon ∷ [];
  gives = λ (pin, (w, _)) at. item.Clock at pin w;
})
unfolding rule set_tail_rule
clock_row c known = picked (λ at. Some (record {
  row = mark kinds.Clock ∷ sign m.Assign ∷ mark kinds.External ∷ form f.text ∷ form f.with ∷ sign m.Semicolon ∷ [];
  gives = λ (pin, (w, _)) at. item.Clock at pin w;
})) c kinds.Clock known (λ t is. rw is refl)

pub family_row : (c : Ahead) → next_kind c ≡ Some kinds.Family → rule f.set_tail (front c.rest)
    ≡ Some (record { row = mark kinds.Family ∷ sign m.Assign ∷ form f.name ∷ sign m.Semicolon ∷ []; gives = λ (x, _) at. item.Family at x })
unfolding rule set_tail_rule
family_row c known = picked (λ at. Some (record { row = mark kinds.Family ∷ sign m.Assign ∷ form f.name ∷ sign m.Semicolon ∷ []; gives = λ (x, _) at. item.Family at x }))
    c kinds.Family known (λ t is. rw is refl)

pub part_row : (c : Ahead) → next_kind c ≡ Some kinds.Part → rule f.set_tail (front c.rest)
    ≡ Some (record { row = mark kinds.Part ∷ sign m.Assign ∷ form f.text ∷ sign m.Semicolon ∷ []; gives = λ (part, _) at. item.Part at part })
unfolding rule set_tail_rule
part_row c known = picked (λ at. Some (record { row = mark kinds.Part ∷ sign m.Assign ∷ form f.text ∷ sign m.Semicolon ∷ []; gives = λ (part, _) at. item.Part at part }))
    c kinds.Part known (λ t is. rw is refl)

set_none : (t : Placed) (k : Kind) → kind t ≡ k → k ≢ kinds.Clock → k ≢ kinds.Family → k ≢ kinds.Part → rule f.set_tail (Some t) ≡ None
unfolding rule set_tail_rule
set_none t kinds.Clock is not_clock not_family not_part = absurd (not_clock refl)
set_none t kinds.Family is not_clock not_family not_part = absurd (not_family refl)
set_none t kinds.Part is not_clock not_family not_part = absurd (not_part refl)
set_none t _ is not_clock not_family not_part = rw is refl

pub no_set_row : (c : Ahead) → next_kind c ≢ Some kinds.Clock → next_kind c ≢ Some kinds.Family → next_kind c ≢ Some kinds.Part → rule f.set_tail (front c.rest) ≡ None
unfolding rule set_tail_rule
no_set_row c not_clock not_family not_part = at c.rest not_clock not_family not_part
  where
    at : (ts : List Placed) → option_map kind (front ts) ≢ Some kinds.Clock → option_map kind (front ts) ≢ Some kinds.Family
        → option_map kind (front ts) ≢ Some kinds.Part → rule f.set_tail (front ts) ≡ None
    at [] a b c = refl
    at (t ∷ tail) a b c = set_none t (kind t) refl (λ is. a (ap Some is)) (λ is. b (ap Some is)) (λ is. c (ap Some is))

-- ---- `void` within the brackets of `main`

pub void_row : (c : Ahead) → next_kind c ≡ Some kinds.Void → rule f.opt_void (front c.rest) ≡ Some (record { row = mark kinds.Void ∷ []; gives = λ _. true })
unfolding rule opt_void_rule
void_row c known = picked (λ at. Some (record { row = mark kinds.Void ∷ []; gives = λ _. true })) c kinds.Void known (λ t is. rw is refl)

void_none : (t : Placed) (k : Kind) → kind t ≡ k → k ≢ kinds.Void → rule f.opt_void (Some t) ≡ Some (record { row = []; gives = λ _. false })
unfolding rule opt_void_rule
void_none t kinds.Void is other = absurd (other refl)
void_none t _ is other = rw is refl

pub no_void_row : (c : Ahead) → next_kind c ≢ Some kinds.Void → rule f.opt_void (front c.rest) ≡ Some (record { row = []; gives = λ _. false })
unfolding rule opt_void_rule
no_void_row c other = at c.rest other
  where
    at : (ts : List Placed) → option_map kind (front ts) ≢ Some kinds.Void → rule f.opt_void (front ts) ≡ Some (record { row = []; gives = λ _. false })
    at [] a = refl
    at (t ∷ tail) a = void_none t (kind t) refl (λ is. a (ap Some is))

-- ---- behind `interface`

pub bus_in_row : (c : Ahead) → next_kind c ≡ Some kinds.BusIn → rule f.interface_tail (front c.rest) ≡ Some (record {
  row = mark kinds.BusIn ∷ sign m.ParenOpen ∷ form f.type ∷ form f.name ∷ sign m.ParenClose ∷ form f.name ∷ sign m.ParenOpen ∷ sign m.ParenClose
      ∷ form f.with ∷ sign m.Semicolon ∷ [];
  gives = λ (of, (port, (x, (w, _)))) at. interface.BusIn at of port x w;
})
unfolding rule interface_tail_rule
bus_in_row c known = picked (λ at. Some (record {
  row = mark kinds.BusIn ∷ sign m.ParenOpen ∷ form f.type ∷ form f.name ∷ sign m.ParenClose ∷ form f.name ∷ sign m.ParenOpen ∷ sign m.ParenClose
      ∷ form f.with ∷ sign m.Semicolon ∷ [];
  gives = λ (of, (port, (x, (w, _)))) at. interface.BusIn at of port x w;
})) c kinds.BusIn known (λ t is. rw is refl)

pub bus_out_row : (c : Ahead) → next_kind c ≡ Some kinds.BusOut → rule f.interface_tail (front c.rest) ≡ Some (record {
  row = mark kinds.BusOut ∷ sign m.ParenOpen ∷ sign m.ParenClose ∷ form f.name ∷ sign m.ParenOpen ∷ form f.type ∷ form f.name ∷ sign m.Assign
      ∷ form f.expr ∷ sign m.ParenClose ∷ form f.with ∷ sign m.Semicolon ∷ [];
  gives = λ (x, (of, (port, (v, (w, _))))) at. interface.BusOut at x of port v w;
})
unfolding rule interface_tail_rule
bus_out_row c known = picked (λ at. Some (record {
  row = mark kinds.BusOut ∷ sign m.ParenOpen ∷ sign m.ParenClose ∷ form f.name ∷ sign m.ParenOpen ∷ form f.type ∷ form f.name ∷ sign m.Assign
      ∷ form f.expr ∷ sign m.ParenClose ∷ form f.with ∷ sign m.Semicolon ∷ [];
  gives = λ (x, (of, (port, (v, (w, _))))) at. interface.BusOut at x of port v w;
})) c kinds.BusOut known (λ t is. rw is refl)

interface_none : (t : Placed) (k : Kind) → kind t ≡ k → k ≢ kinds.BusIn → k ≢ kinds.BusOut → rule f.interface_tail (Some t) ≡ None
unfolding rule interface_tail_rule
interface_none t kinds.BusIn is not_in not_out = absurd (not_in refl)
interface_none t kinds.BusOut is not_in not_out = absurd (not_out refl)
interface_none t _ is not_in not_out = rw is refl

pub no_interface_row : (c : Ahead) → next_kind c ≢ Some kinds.BusIn → next_kind c ≢ Some kinds.BusOut → rule f.interface_tail (front c.rest) ≡ None
unfolding rule interface_tail_rule
no_interface_row c not_in not_out = at c.rest not_in not_out
  where
    at : (ts : List Placed) → option_map kind (front ts) ≢ Some kinds.BusIn → option_map kind (front ts) ≢ Some kinds.BusOut → rule f.interface_tail (front ts) ≡ None
    at [] a b = refl
    at (t ∷ tail) a b = interface_none t (kind t) refl (λ is. a (ap Some is)) (λ is. b (ap Some is))

-- ---- a whole source

pub program_row : (c : Ahead) → rule f.program (front c.rest) ≡ Some (record { row = form f.items ∷ []; gives = λ (items, _). record { items = items } })
unfolding rule program_rule
program_row c = refl

pub items_row : (c : Ahead) → length c.rest ≢ 0
    → rule f.items (front c.rest) ≡ Some (record { row = form f.item ∷ form f.items ∷ []; gives = λ (x, (more, _)). x ∷ more })
unfolding rule items_rule
items_row c some = at c.rest some
  where
    at : (ts : List Placed) → length ts ≢ 0 → rule f.items (front ts) ≡ Some (record { row = form f.item ∷ form f.items ∷ []; gives = λ (x, (more, _)). x ∷ more })
    at [] some = absurd (some refl)
    at (t ∷ tail) some = refl

pub no_items_row : (c : Ahead) → length c.rest ≡ 0 → rule f.items (front c.rest) ≡ Some (record { row = []; gives = λ _. [] })
unfolding rule items_rule
no_items_row c none = at c.rest none
  where
    at : (ts : List Placed) → length ts ≡ 0 → rule f.items (front ts) ≡ Some (record { row = []; gives = λ _. [] })
    at [] none = refl
    at (t ∷ tail) none = absurd cc
