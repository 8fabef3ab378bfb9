-- What items do to names: those that are declared stay so, and the name of an input or output is a new one.
use Rattle.std.proofs.Common.{◌≡◌, ◌≢◌, ◌||◌, ℕ, zero, suc, Bool, true, false, List, [], ◌∷◌, ◌++◌, Option, Some, None, AllPairs, get_or, arith, refl, sym, ap, subst, map}
use Rattle.std.specs.Prelude.{if◌then◌else◌}
use Rattle.std.specs.Str.{bytes_eq}
use Rattle.std.specs.Cmp.Lexicographic.{nat_list_eq_equiv}
use Rattle.std.proofs.lemmas.List.Elements.{All-push, All-weaker, All-get_or, All-same}
use Rattle.std.proofs.lemmas.List.Quantifiers.{all_pairs_push}
use Rattle.hc_tree.specs.declared.place.Place.{Place}
use Rattle.hc_tree.specs.declared.name.Ident.{Ident}
use Rattle.hc_tree.specs.declared.refusal.Rule.TheVariants.{S5, L6}
use Rattle.hc_tree.specs.declared.refusal.Detail.TheVariants.{Nothing}
use Rattle.hc_tree.specs.declared.expr.ExprTree.{ExprTree}
use Rattle.hc_tree.specs.declared.expr.«Type».{«Type»}
use Rattle.hc_tree.specs.declared.decl.Decl.{Decl}
use Rattle.hc_tree.specs.declared.decl.Decl.TheVariants as d
use Rattle.hc_tree.specs.declared.decl.With.{With}
use Rattle.hc_tree.specs.declared.item.Interface.{Interface}
use Rattle.hc_tree.specs.declared.item.Interface.TheVariants as interface
use Rattle.hc_tree.specs.declared.item.Item.{Item}
use Rattle.hc_tree.specs.declared.item.Item.TheVariants as item
use Rattle.hc_tree.specs.declared.stmt.Block.{Block}
use Rattle.hc_tree.specs.declared.stmt.Macro.{Macro, out-Macro}
use Rattle.hc_tree.specs.declared.stmt.LocalItem.{LocalItem}
use Rattle.hc_tree.specs.declared.stmt.LocalItem.TheOpen.{Macro-F}
use Rattle.hc_tree.specs.declared.stmt.Stmt.{Stmt}
use Rattle.hc_tree.specs.declared.stmt.Arm.{Arm}
use Rattle.hc_tree.specs.declared.stmt.Case.{Case}
use Rattle.hc_tree.specs.declared.stmt.Other.{Other}
use Rattle.hc_core.specs.Sound.{HasLabelBytes, port_names}
use Rattle.hc_core.specs.declared.object.Kind.{Kind}
use Rattle.hc_core.specs.declared.object.Kind.TheVariants as kind
use Rattle.hc_core.specs.declared.object.Object.{Object}
use Rattle.hc_width.specs.Operand.{Operand}
use Rattle.hc_scope.specs.Declaration.{fresh, declaring, kind_of, few_elements, object, object_form, name_form, names, typed_names, unboxed, var_name, mem_name, declaration, pins_of, port_object, input, fresh_input, taken, output, bus_out, interface_form}
use Rattle.hc_scope.specs.Expands.{Items, with_clock, with_main, item_form, item_place}
use Rattle.hc_scope.specs.Expansion.{Yields, pure, refuse_name, make, visit}
use Rattle.hc_scope.specs.Expression.{type_of}
use Rattle.hc_declare.specs.Items.{items_in, item_node, HasPorts, ItemGrows}
use Rattle.hc_scope.specs.Nodes.{nodes}
use Rattle.hc_scope.specs.Parts.{Context, TypeOf, Parts, DeclaredName, a_signal, a_channel, ident_of, place_of}
use Rattle.hc_scope.specs.Plain.{IsPlainItem, interface_name}
use Rattle.hc_scope.specs.Reading.{scope_in, scope_of}
use Rattle.hc_scope.specs.Scope.{Scope, Meaning, an_object, an_interface, an_expression, a_procedure, declared, is_declared}
use Rattle.hc_core.specs.Typed.{kinds_of}
use Rattle.hc_scope.specs.Sound.{AreSound, Grows, GrowsBy}
use Rattle.hc_scope.specs.Statement.{macro_layer, macro_form, parameters_of}
use Rattle.hc_scope.specs.Table.{Entries}
use Rattle.hc_scope.specs.Written.{written}
use Rattle.hc_declare.specs.declared.items.Roots.{Roots}
use Rattle.hc_scope.specs.declared.scope.Scope as code
use Rattle.hc_scope.specs.declared.state.State.{State}
use Rattle.hc_declare.proofs.Gives.{Gives, gives_pure, gives_refuse, gives_then, gives_behind}

-- what is declared in a context is in another one
record Keeps (c c' : Context) : Type 0 where
  each : (n : List ℕ) → is_declared n c.scope ≡ true → is_declared n c'.scope ≡ true

-- a name is not declared in a context, and is in another one with all that are declared
record IsNew (x : List ℕ) (c c' : Context) : Type 0 where
  new : is_declared x c.scope ≡ false
  here : is_declared x c'.scope ≡ true
  keeps : Keeps c c'

or_true : (a b : Bool) → b ≡ true → (a || b) ≡ true
or_true true b is = refl
or_true false b is = is

true_or : (a b : Bool) → a ≡ true → (a || b) ≡ true
true_or true b is = refl
true_or false b is = absurd (cc)

keeps_all : (c : Context) → Keeps c c
keeps_all c = record { each = λ n is. is }

keeps_on : (c c' c'' : Context) → Keeps c c' → Keeps c' c'' → Keeps c c''
keeps_on c c' c'' first more = record { each = λ n is. more.each n (first.each n is) }

keeps_declaring : (x : Ident) (m : Meaning) (c : Context) → Keeps c (declaring x m c)
keeps_declaring x m c = record { each = λ n is. or_true (bytes_eq x.name n) (is_declared n c.scope) is }

is_new : (x : Ident) (m : Meaning) (c : Context) → is_declared x.name c.scope ≡ false → IsNew x.name c (declaring x m c)
is_new x m c new = record {
  new = new;
  here = true_or (bytes_eq x.name x.name) (is_declared x.name c.scope) (nat_list_eq_equiv.refl x.name);
  keeps = keeps_declaring x m c;
}

gives_fresh : (c : Context) (x : Ident) → Gives (λ (u : Unit {0}). is_declared x.name c.scope ≡ false) (fresh c x)
gives_fresh c x = record { each = λ s s' u is. go s s' u (is_declared x.name c.scope) is }
  where
    go : (s s' : State) (u : Unit {0}) (b : Bool) → (if b then refuse_name S5 x else pure tt) s ≡ Yields u s' → b ≡ false
    go s s' u true is = absurd (cc)
    go s s' u false is = refl

-- ---- declarations

gives_object : (c : Context) (x : Ident) (kind : Kind) → Gives (Keeps c) (object c x kind)
gives_object c x kind =
    gives_behind (Keeps c) (make x kind) _ (λ k. gives_behind (Keeps c) (few_elements x kind) _ (λ u. gives_pure (Keeps c) (declaring x (an_object k) c) (keeps_declaring x (an_object k) c)))

gives_name_form : (p : Parts) (c : Context) (x : Ident) (t : TypeOf) (n : DeclaredName) → Gives (Keeps c) (name_form p c x t n)
unfolding name_form object_form
gives_name_form p c x t n =
    gives_behind (Keeps c) (fresh c x) _ (λ u. gives_behind (Keeps c) (kind_of p c t n) _ (λ kind. gives_object c x kind))

gives_name : (room : ℕ) (c : Context) (t : TypeOf) (n : DeclaredName) → Gives (Keeps c) ((nodes room).name c t n)
unfolding nodes
gives_name zero c t n = gives_behind (Keeps c) (visit false c.calls (ident_of n).place) _ (λ u. gives_refuse (Keeps c) L6 (ident_of n).place Nothing)
gives_name (suc room) c t n = gives_behind (Keeps c) (visit false c.calls (ident_of n).place) _ (λ u. gives_name_form (nodes room) c (ident_of n) t n)

gives_names : (room : ℕ) (c : Context) (t : TypeOf) (ns : List DeclaredName) → Gives (Keeps c) (names (nodes room) c t ns)
gives_names room c t [] = gives_pure (Keeps c) c (keeps_all c)
gives_names room c t (n ∷ ns) = gives_then (Keeps c) (Keeps c) ((nodes room).name c t n) (λ inner. names (nodes room) inner t ns) (gives_name room c t n)
    (λ inner kept. record { each = λ s s' c' is. keeps_on c inner c' kept ((gives_names room inner t ns).each s s' c' is) })

gives_typed : (room : ℕ) (c : Context) (of : «Type») (ns : List DeclaredName) → Gives (Keeps c) (typed_names (nodes room) c of ns)
gives_typed room c of ns = gives_behind (Keeps c) (type_of (nodes room) c of) _ (λ t. gives_names room c t ns)

gives_declaration : (room : ℕ) (c : Context) (x : Decl) → Gives (Keeps c) (declaration (nodes room) c x)
unfolding declaration
gives_declaration room c (d.Vars place is_static of vars with_list) = gives_typed room c of (map var_name vars)
gives_declaration room c (d.Memories place is_static which of memories with_list) = gives_typed room c of (map (mem_name which) memories)
gives_declaration room c (d.Signals place of signals with_list) = gives_typed room c (unboxed of) (map a_signal signals)
gives_declaration room c (d.Chans place of channels with_list) = gives_typed room c (unboxed of) (map a_channel channels)

-- ---- macros

gives_macro_layer : (c : Context) (m : Macro-F LocalItem Macro Stmt Arm Block Case Other) → Gives (Keeps c) (macro_layer c m)
gives_macro_layer c (Macro-F.Expr place x parameters value) =
    gives_behind (Keeps c) (fresh c x) _ (λ u. gives_pure (Keeps c) _ (keeps_declaring x (an_expression (parameters_of parameters) value) c))
gives_macro_layer c (Macro-F.Proc place x parameters body) =
    gives_behind (Keeps c) (fresh c x) _ (λ u. gives_pure (Keeps c) _ (keeps_declaring x (a_procedure parameters.names body) c))

gives_macro : (c : Context) (m : Macro) → Gives (Keeps c) (macro_form c m)
unfolding macro_form
gives_macro c m = gives_macro_layer c (out-Macro m)

-- ---- interfaces

gives_port : (c : Context) (x port : Ident) (kind : Kind) → is_declared x.name c.scope ≡ false → Gives (IsNew x.name c) (port_object c x port kind)
gives_port c x port kind new = gives_behind (IsNew x.name c) (make x kind) _ (λ k. gives_pure (IsNew x.name c) _ (is_new x (an_interface k port.name) c new))

gives_input : (c : Context) (t : TypeOf) (port x : Ident) (w : Option With) → is_declared x.name c.scope ≡ false → Gives (IsNew x.name c) (input c t port x w)
unfolding input
gives_input c t port x w new = gives_behind (IsNew x.name c) (pins_of t.width w) _ (λ pins. gives_port c x port (kind.Input t.width t.signed pins) new)

gives_fresh_input : (c : Context) (t : TypeOf) (port x : Ident) (w : Option With) → Gives (IsNew x.name c) (fresh_input c t port x w)
gives_fresh_input c t port x w =
    gives_then (λ u. is_declared x.name c.scope ≡ false) (IsNew x.name c) (fresh c x) (λ u. input c t port x w) (gives_fresh c x) (λ u new. gives_input c t port x w new)

gives_output : (c : Context) (t : TypeOf) (x port : Ident) (w : Option With) (place : Place) (v : Operand) → is_declared x.name c.scope ≡ false
    → Gives (IsNew x.name c) (output c t x port w place v)
unfolding output
gives_output c t x port w place v new =
    gives_behind (IsNew x.name c) (taken t place v) _
    (λ e. gives_behind (IsNew x.name c) (pins_of t.width w) _ (λ pins. gives_port c x port (kind.Output t.width t.signed pins (written e)) new))

gives_bus_out : (p : Parts) (c : Context) (x : Ident) (of : «Type») (port : Ident) (v : ExprTree) (w : Option With) → is_declared x.name c.scope ≡ false
    → Gives (IsNew x.name c) (bus_out p c x of port v w)
unfolding bus_out
gives_bus_out p c x of port v w new =
    gives_behind (IsNew x.name c) (type_of p c of) _ (λ t. gives_behind (IsNew x.name c) (p.expression c v) _ (λ shown. gives_output c t x port w (place_of v) shown new))

gives_interface : (p : Parts) (c : Context) (i : Interface) → Gives (IsNew (interface_name i) c) (interface_form p c i)
unfolding interface_form
gives_interface p c (interface.BusIn place of port x w) = gives_behind (IsNew x.name c) (type_of p c of) _ (λ t. gives_fresh_input c t port x w)
gives_interface p c (interface.BusOut place x of port v w) =
    gives_then (λ u. is_declared x.name c.scope ≡ false) (IsNew x.name c) (fresh c x) (λ u. bus_out p c x of port v w) (gives_fresh c x) (λ u new. gives_bus_out p c x of port v w new)

-- ---- items

abbrev ItemKeeps : Item → Context → Context → Type 0
ItemKeeps (item.Clock place pin w) c c' = Keeps c c'
ItemKeeps (item.Family place x) c c' = Keeps c c'
ItemKeeps (item.Part place part) c c' = Keeps c c'
ItemKeeps (item.Decl list) c c' = Keeps c c'
ItemKeeps (item.Interface port) c c' = IsNew (interface_name port) c c'
ItemKeeps (item.Macro m) c c' = Keeps c c'
ItemKeeps (item.Main place says_void body) c c' = Keeps c c'

abbrev KeepsIn : Item → Items → Items → Type 0
KeepsIn x i j = ItemKeeps x i.context j.context

gives_clock : (i : Items) (place : Place) (pin : List ℕ) (before : Option (List ℕ)) → Gives (λ (j : Items). Keeps i.context j.context) (with_clock i place pin before)
gives_clock i place pin None = gives_pure (λ (j : Items). Keeps i.context j.context) _ (keeps_all i.context)
gives_clock i place pin (Some other) = gives_refuse (λ (j : Items). Keeps i.context j.context) S5 place _

gives_main : (i : Items) (place : Place) (body : Block) (before : Option Block) → Gives (λ (j : Items). Keeps i.context j.context) (with_main i place body before)
gives_main i place body None = gives_pure (λ (j : Items). Keeps i.context j.context) _ (keeps_all i.context)
gives_main i place body (Some other) = gives_refuse (λ (j : Items). Keeps i.context j.context) S5 place _

gives_item_form : (room : ℕ) (i : Items) (x : Item) → Gives (KeepsIn x i) (item_form (nodes room) i x)
unfolding item_form
gives_item_form room i (item.Clock place pin w) = gives_clock i place pin i.clock
gives_item_form room i (item.Family place x) = gives_pure (KeepsIn (item.Family place x) i) i (keeps_all i.context)
gives_item_form room i (item.Part place part) = gives_pure (KeepsIn (item.Part place part) i) i (keeps_all i.context)
gives_item_form room i (item.Decl x) =
    gives_then (Keeps i.context) (KeepsIn (item.Decl x) i) (declaration (nodes room) i.context x) _ (gives_declaration room i.context x)
    (λ c kept. gives_pure (KeepsIn (item.Decl x) i) _ kept)
gives_item_form room i (item.Interface port) =
    gives_then (IsNew (interface_name port) i.context) (KeepsIn (item.Interface port) i) (interface_form (nodes room) i.context port) _
    (gives_interface (nodes room) i.context port) (λ c new. gives_pure (KeepsIn (item.Interface port) i) _ new)
gives_item_form room i (item.Macro m) =
    gives_then (Keeps i.context) (KeepsIn (item.Macro m) i) (macro_form i.context m) _ (gives_macro i.context m)
    (λ c kept. gives_pure (KeepsIn (item.Macro m) i) _ kept)
gives_item_form room i (item.Main place says_void body) = gives_main i place body i.main

gives_item : (room : ℕ) (i : Items) (x : Item) → Gives (KeepsIn x i) (item_node (nodes room) i x)
gives_item room i x = gives_behind (KeepsIn x i) (visit false 0 (item_place x)) _ (λ u. gives_item_form room i x)

-- ---- ports

kept_ports : (c c' : Context) (old new : List Object) → Keeps c c' → Grows old new → HasPorts c.scope old → HasPorts c'.scope new
kept_ports c c' old new keeps grows ports = record {
  declared = All-same (λ x. is_declared x c'.scope ≡ true) (port_names new) (port_names old) grows.ports
      (All-weaker (λ x. is_declared x c.scope ≡ true) (λ x. is_declared x c'.scope ≡ true) (λ x is. keeps.each x is) (port_names old) ports.declared);
  differ = subst (λ names. AllPairs ◌≢◌ names) (sym grows.ports) ports.differ;
  labels = All-same HasLabelBytes (port_names new) (port_names old) grows.ports ports.labels;
}

differs : (scope : Scope) (x y : List ℕ) → is_declared x scope ≡ false → is_declared y scope ≡ true → y ≢ x
differs scope x y new here same = let h = ap (λ n. is_declared n scope) same in absurd (cc)

new_port : (c c' : Context) (x : List ℕ) (old new : List Object) → IsNew x c c' → HasLabelBytes x → GrowsBy x old new → HasPorts c.scope old → HasPorts c'.scope new
new_port c c' x old new named label grows ports = record {
  declared = All-same (λ y. is_declared y c'.scope ≡ true) (port_names new) (port_names old ++ x ∷ []) grows.ports
      (All-push (λ y. is_declared y c'.scope ≡ true) (port_names old) x
      (All-weaker (λ y. is_declared y c.scope ≡ true) (λ y. is_declared y c'.scope ≡ true) (λ y is. named.keeps.each y is) (port_names old) ports.declared) named.here);
  differ = subst (λ names. AllPairs ◌≢◌ names) (sym grows.ports)
      (all_pairs_push ◌≢◌ (port_names old) x ports.differ
      (λ k d within. differs c.scope x (get_or (port_names old) k d) named.new (All-get_or (λ y. is_declared y c.scope ≡ true) (port_names old) k d within ports.declared)));
  labels = All-same HasLabelBytes (port_names new) (port_names old ++ x ∷ []) grows.ports (All-push HasLabelBytes (port_names old) x ports.labels label);
}

ports_by : (x : Item) (c c' : Context) (old new : List Object) → IsPlainItem x → ItemKeeps x c c' → ItemGrows x old new → HasPorts c.scope old → HasPorts c'.scope new
ports_by (item.Clock place pin w) c c' old new plain keeps grows ports = kept_ports c c' old new keeps grows ports
ports_by (item.Family place x) c c' old new plain keeps grows ports = kept_ports c c' old new keeps grows ports
ports_by (item.Part place part) c c' old new plain keeps grows ports = kept_ports c c' old new keeps grows ports
ports_by (item.Decl list) c c' old new plain keeps grows ports = kept_ports c c' old new keeps grows ports
ports_by (item.Interface port) c c' old new plain keeps grows ports = new_port c c' (interface_name port) old new keeps plain.name grows ports
ports_by (item.Macro m) c c' old new plain keeps grows ports = kept_ports c c' old new keeps grows ports
ports_by (item.Main place says_void body) c c' old new plain keeps grows ports = kept_ports c c' old new keeps grows ports

-- the names of the ports behind an item are declared, and differ
pub ports_behind : (room : ℕ) (entries entries' : Entries) (around : code.Scope) (roots roots' : Roots) (x : Item) (s s' : State) → IsPlainItem x
    → item_node (nodes room) (items_in entries around roots) x s ≡ Yields (items_in entries' around roots') s' → ItemGrows x s.objects s'.objects
    → HasPorts (scope_in entries (scope_of around)) s.objects → HasPorts (scope_in entries' (scope_of around)) s'.objects
ports_behind room entries entries' around roots roots' x s s' plain is grows ports =
    let keeps = (gives_item room (items_in entries around roots) x).each s s' (items_in entries' around roots') is in
    ports_by x (items_in entries around roots).context (items_in entries' around roots').context s.objects s'.objects plain keeps grows ports

-- the objects behind an item keep their rules
pub sound_behind : (x : Item) (old new : List Object) → ItemGrows x old new → AreSound (kinds_of new)
sound_behind (item.Clock place pin w) old new grows = grows.sound
sound_behind (item.Family place x) old new grows = grows.sound
sound_behind (item.Part place part) old new grows = grows.sound
sound_behind (item.Decl list) old new grows = grows.sound
sound_behind (item.Interface port) old new grows = grows.sound
sound_behind (item.Macro m) old new grows = grows.sound
sound_behind (item.Main place says_void body) old new grows = grows.sound

-- nothing has no ports
pub no_ports : (scope : Scope) → HasPorts scope []
no_ports scope = record {
  declared = λ k d within. absurd (omega arith);
  differ = λ i j d less within. absurd (omega arith);
  labels = λ k d within. absurd (omega arith);
}
