-- A tree that spells tokens as a lexer makes them has texts that the texts of a netlist can hold.
use Rattle.std.proofs.Common.{◌≡◌, ◌&&◌, Bool, true, false, ℕ, List, [], ◌∷◌, Some, None, All, IsTrue, refl, sym, subst, arith}
use Rattle.std.specs.Prelude.{codes, if◌then◌else◌}
use Rattle.std.specs.List.{list_all}
use Rattle.std.specs.Str.{bytes_eq}
use Rattle.std.proofs.lemmas.Bool.Decides.{nat_tests}
use Rattle.std.proofs.lemmas.List.Elements.{All-nil, All-cons, All-head, All-rest}
use Rattle.hc_tree.specs.declared.place.Place.{Place}
use Rattle.hc_tree.specs.declared.item.Tree.{Tree}
use Rattle.hc_tree.specs.declared.item.Interface.{Interface}
use Rattle.hc_lex.specs.Front.{is_word_byte}
use Rattle.hc_lex.specs.Lexes.{is_plain as is_plain_token, IsPlain as IsPlainToken}
use Rattle.hc_lex.specs.declared.mark.Mark.TheVariants as m
use Rattle.hc_lex.specs.declared.token.Token.{Token}
use Rattle.hc_lex.specs.declared.token.Token.TheVariants as t
use Rattle.hc_lex.specs.declared.token.Placed.{Placed}
use Rattle.hc_grammar.specs.declared.kind.Kind.{Kind}
use Rattle.hc_grammar.specs.declared.kind.Kind.TheVariants as k
use Rattle.hc_grammar.specs.Kind.{kind, is_name, bytes_of}
use Rattle.hc_grammar.specs.Table.{Part, mark, form, Values, Reads, ReadsRow, by, done, token, part, front}
use Rattle.hc_grammar.specs.Form as f
use Rattle.hc_grammar.specs.Form.{Form, Gives}
use Rattle.hc_grammar.specs.Expression.{Rules, name_rule, text_rule, begins_type}
use Rattle.hc_grammar.specs.Declaration.{with_rule, spec_rule, more_specs_rule, spec_value_rule, more_texts_rule}
use Rattle.hc_grammar.specs.Statement.{begins_decl}
use Rattle.hc_grammar.specs.Item.{program_rule, items_rule, item_rule, set_tail_rule, interface_tail_rule}
use Rattle.hc_grammar.specs.Grammar.{grammar, rule}
use Rattle.hc_core.specs.Sound.{HasLabelBytes, is_label_byte}
use Rattle.hc_scope.specs.Plain.{IsPlainValue, ArePlain, IsPlain, IsPlainInterface, IsPlainItem}
use Rattle.hc_expand.specs.Spelled.{IsSpelled}

-- ---- tokens

all_first : (a b : Bool) (p q : Bool) → (a && p) ≡ true → (a ≡ true → b ≡ true) → (p ≡ true → q ≡ true) → (b && q) ≡ true
all_first true b p q is first rest = rw (first refl) (rest is)
all_first false b p q is first rest = absurd (cc)

all_by : (p q : ℕ → Bool) → ((b : ℕ) → p b ≡ true → q b ≡ true) → (bytes : List ℕ) → list_all p bytes ≡ true → list_all q bytes ≡ true
all_by p q each [] is = refl
all_by p q each (b ∷ bytes) is = all_first (p b) (q b) (list_all p bytes) (list_all q bytes) is (each b) (all_by p q each bytes)

word_byte : (b : ℕ) → is_word_byte b ≡ true → is_label_byte b ≡ true
word_byte b is = grind (arith, nat_tests)

-- the bytes of a token that is a word or text, and none of another one
label_bytes : (x : Token) → IsTrue (is_plain_token x) → HasLabelBytes (bytes_of x)
unfolding bytes_of
label_bytes (t.Word name) is = all_by is_word_byte is_label_byte word_byte name is
label_bytes (t.Number n) is = is
label_bytes (t.Text text) is = is
label_bytes (t.Mark x) is = is

-- ---- what is shown of the value of each form

Shows : (x : Form) → Gives x → Type 0
Shows f.name x = HasLabelBytes x.name
Shows f.text bytes = HasLabelBytes bytes
Shows f.with w = IsPlain w
Shows f.spec s = bytes_eq s.name.name (codes "data") ≡ true → IsPlainValue s.value
Shows f.more_specs specs = ArePlain specs
Shows f.spec_value v = IsPlainValue v
Shows f.more_texts texts = All HasLabelBytes texts
Shows f.interface_tail tail = (at : Place) → IsPlainInterface (tail at)
Shows f.set_tail tail = (at : Place) → IsPlainItem (tail at)
Shows f.item x = IsPlainItem x
Shows f.items xs = All IsPlainItem xs
Shows f.program tree = All IsPlainItem tree.items
Shows _ v = Unit {0}

AllShow : (row : List (Part Kind Form)) → Values Gives row → Type 0
AllShow [] vs = Unit {0}
AllShow (mark k ∷ row) vs = AllShow row vs
AllShow (form f ∷ row) vs = Shows f vs.0 × AllShow row vs.1

-- what a rule gives shows what its parts show
abbrev Fine : (x : Form) → Rules x → Type 0
Fine x None = (vs u : Unit {0}) → Unit {0}
Fine x (Some r) = (vs : Values Gives r.row) → AllShow r.row vs → Shows x (r.gives vs)

nothing_shown : (x : Form) → ((v : Gives x) → Shows x v) → (r : Rules x) → Fine x r
nothing_shown x all None = λ vs u. tt
nothing_shown x all (Some r) = λ vs shown. all (r.gives vs)

fine-name : (t : Placed) → IsPlainToken t → (b : Bool) (kind_is : Kind)
    → Fine f.name (if b then Some (record { row = mark kind_is ∷ []; gives = λ _. record { place = t.place; name = bytes_of t.token } }) else None)
unfolding Shows
fine-name t lexed true kind_is = λ vs shown. label_bytes t.token lexed
fine-name t lexed false kind_is = λ vs u. tt

fine-text : (t : Placed) → IsPlainToken t → (kind_is : Kind) → kind t ≡ kind_is → Fine f.text (rule f.text (Some t))
unfolding rule text_rule Shows
fine-text t lexed k.Text e = rw e (λ vs shown. label_bytes t.token lexed)
fine-text t lexed _ e = rw e (λ vs u. tt)

fine-with : (t : Placed) (kind_is : Kind) → kind t ≡ kind_is → Fine f.with (rule f.with (Some t))
unfolding rule with_rule Shows AllShow
fine-with t k.With e = rw e (λ vs shown. (shown.0, shown.1.0))
fine-with t _ e = rw e (λ vs u. tt)

fine-spec : (t : Placed) (kind_is : Kind) → kind t ≡ kind_is → Fine f.spec (rule f.spec (Some t))
unfolding rule spec_rule Shows AllShow
fine-spec t kind_is e = λ vs shown is. shown.1.0

fine-more_specs : (t : Placed) (kind_is : Kind) → kind t ≡ kind_is → Fine f.more_specs (rule f.more_specs (Some t))
unfolding rule more_specs_rule Shows AllShow
fine-more_specs t (k.Mark m.Comma) e = rw e (λ vs shown. (shown.0, shown.1.0))
fine-more_specs t _ e = rw e (λ vs u. tt)

fine-spec_value : (t : Placed) (kind_is : Kind) → kind t ≡ kind_is → Fine f.spec_value (rule f.spec_value (Some t))
unfolding rule spec_value_rule Shows AllShow
fine-spec_value t (k.Mark m.BraceOpen) e = rw e (λ vs shown. All-cons HasLabelBytes vs.0 vs.1.0 shown.0 shown.1.0)
fine-spec_value t _ e = rw e (λ vs shown. tt)

fine-more_texts : (t : Placed) (kind_is : Kind) → kind t ≡ kind_is → Fine f.more_texts (rule f.more_texts (Some t))
unfolding rule more_texts_rule Shows AllShow
fine-more_texts t (k.Mark m.Comma) e = rw e (λ vs shown. All-cons HasLabelBytes vs.0 vs.1.0 shown.0 shown.1.0)
fine-more_texts t _ e = rw e (λ vs u. All-nil HasLabelBytes)

fine-interface_tail : (t : Placed) (kind_is : Kind) → kind t ≡ kind_is → Fine f.interface_tail (rule f.interface_tail (Some t))
unfolding rule interface_tail_rule Shows AllShow
fine-interface_tail t k.BusIn e = rw e (λ vs shown at. record { name = shown.1.1.0; pins = shown.1.1.1.0 })
fine-interface_tail t k.BusOut e = rw e (λ vs shown at. record { name = shown.0; pins = shown.1.1.1.1.0 })
fine-interface_tail t _ e = rw e (λ vs u. tt)

fine-set_tail : (t : Placed) (kind_is : Kind) → kind t ≡ kind_is → Fine f.set_tail (rule f.set_tail (Some t))
unfolding rule set_tail_rule Shows AllShow
fine-set_tail t k.Clock e = rw e (λ vs shown at. shown.0)
fine-set_tail t k.Family e = rw e (λ vs shown at. tt)
fine-set_tail t k.Part e = rw e (λ vs shown at. tt)
fine-set_tail t _ e = rw e (λ vs u. tt)

fine-item : (t : Placed) (kind_is : Kind) → kind t ≡ kind_is → Fine f.item (rule f.item (Some t))
unfolding rule item_rule begins_decl begins_type Shows AllShow
fine-item t k.Set e = rw e (λ vs shown. shown.0 t.place)
fine-item t k.Interface e = rw e (λ vs shown. shown.0 t.place)
fine-item t (k.Mark m.Question) e = rw e (λ vs u. tt)
fine-item t _ e = rw e (λ vs shown. tt)

fine-items : (t : Placed) (kind_is : Kind) → kind t ≡ kind_is → Fine f.items (rule f.items (Some t))
unfolding rule items_rule Shows AllShow
fine-items t kind_is e = λ vs shown. All-cons IsPlainItem vs.0 vs.1.0 shown.0 shown.1.0

-- the rules for a token
fine_token : (x : Form) (t : Placed) → IsPlainToken t → Fine x (rule x (Some t))
unfolding rule name_rule program_rule Shows AllShow
fine_token f.name t lexed = fine-name t lexed (is_name (kind t)) (kind t)
fine_token f.text t lexed = fine-text t lexed (kind t) refl
fine_token f.with t lexed = fine-with t (kind t) refl
fine_token f.spec t lexed = fine-spec t (kind t) refl
fine_token f.more_specs t lexed = fine-more_specs t (kind t) refl
fine_token f.spec_value t lexed = fine-spec_value t (kind t) refl
fine_token f.more_texts t lexed = fine-more_texts t (kind t) refl
fine_token f.interface_tail t lexed = fine-interface_tail t (kind t) refl
fine_token f.set_tail t lexed = fine-set_tail t (kind t) refl
fine_token f.item t lexed = fine-item t (kind t) refl
fine_token f.items t lexed = fine-items t (kind t) refl
fine_token f.program t lexed = λ vs shown. shown.0
fine_token x t lexed = nothing_shown x (λ v. tt) (rule x (Some t))

-- the rules for the end
fine_end : (x : Form) → Fine x (rule x None)
unfolding rule name_rule text_rule with_rule spec_rule more_specs_rule spec_value_rule more_texts_rule interface_tail_rule set_tail_rule item_rule items_rule program_rule Shows AllShow
fine_end f.name = λ vs u. tt
fine_end f.text = λ vs u. tt
fine_end f.with = λ vs u. tt
fine_end f.spec = λ vs u. tt
fine_end f.more_specs = λ vs u. tt
fine_end f.spec_value = λ vs u. tt
fine_end f.more_texts = λ vs u. All-nil HasLabelBytes
fine_end f.interface_tail = λ vs u. tt
fine_end f.set_tail = λ vs u. tt
fine_end f.item = λ vs u. tt
fine_end f.items = λ vs u. All-nil IsPlainItem
fine_end f.program = λ vs shown. shown.0
fine_end x = nothing_shown x (λ v. tt) (rule x None)

fine : (x : Form) (ts : List Placed) → All IsPlainToken ts → Fine x (rule x (front ts))
fine x [] lexed = fine_end x
fine x (t ∷ ts) lexed = fine_token x t (All-head IsPlainToken t ts lexed)

-- ---- tokens that are read

mutual
  unfolding AllShow

  shown : {x : Form} {ts rest : List Placed} {v : Gives x} → Reads grammar x ts v rest → All IsPlainToken ts → Shows x v × All IsPlainToken rest
  shown {x} {ts} (by r vs is row same) lexed =
      let parts = shown_row row lexed in
      let rules : Fine x (Some r) = subst (Fine x) is (fine x ts lexed) in
      (subst (Shows x) (sym same) (rules vs parts.0), parts.1)

  shown_row : {row : List (Part Kind Form)} {ts rest : List Placed} {vs : Values Gives row} → ReadsRow grammar row ts vs rest → All IsPlainToken ts
      → AllShow row vs × All IsPlainToken rest
  shown_row done lexed = (tt, lexed)
  shown_row {ts} (token t tail is of row) lexed = shown_row row (All-rest IsPlainToken t tail ts is lexed)
  shown_row (part mid read row) lexed = let first = shown read lexed in let more = shown_row row first.1 in ((first.0, more.0), more.1)

-- each item of a tree that is spelled
pub plain_items : (tree : Tree) → IsSpelled tree → All IsPlainItem tree.items
unfolding Shows
plain_items tree spelled = (shown spelled.spells spelled.plain).0
