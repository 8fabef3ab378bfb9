-- What a tree expands to: a core, or the first rule or limit that it breaks.
use Rattle.std.specs.Prelude.{◌≡◌, ℕ, Bool, true, false, List, [], ◌∷◌, codes, Option, Some, None}
use Rattle.std.specs.List.{list_any}
use Rattle.hc_tree.specs.declared.place.Place.{Place}
use Rattle.hc_tree.specs.declared.refusal.Rule.TheVariants.{S5, S23}
use Rattle.hc_tree.specs.declared.refusal.Detail.TheVariants.{Name}
use Rattle.hc_tree.specs.declared.refusal.Refusal.{Refusal}
use Rattle.hc_tree.specs.declared.decl.Decl.{Decl}
use Rattle.hc_tree.specs.declared.decl.Decl.TheVariants as d
use Rattle.hc_tree.specs.declared.item.Interface.{Interface}
use Rattle.hc_tree.specs.declared.item.Interface.TheVariants as interface
use Rattle.hc_tree.specs.declared.item.Item.{Item}
use Rattle.hc_tree.specs.declared.item.Item.TheVariants as item
use Rattle.hc_tree.specs.declared.item.Tree.{Tree}
use Rattle.hc_tree.specs.declared.stmt.Block.{Block, out-Block}
use Rattle.hc_core.specs.Program.{Statement, Seq}
use Rattle.hc_core.specs.Read.{statement}
use Rattle.hc_core.specs.declared.object.Object.{Object}
use Rattle.hc_core.specs.declared.object.Core.{Core}
use Rattle.hc_scope.specs.Scope.{outside, opened}
use Rattle.hc_scope.specs.declared.state.State.{State}
use Rattle.hc_scope.specs.Expansion.{Outcome, Yields, Refuses, Expansion, ◌>>=◌, ◌>>◌, ◌<$>◌, pure, refuse, made, visit}
use Rattle.hc_scope.specs.Parts.{Context, Parts}
use Rattle.hc_scope.specs.Declaration.{declaration, interface_form}
use Rattle.hc_scope.specs.Statement.{in_order, macro_form, macro_place}
use Rattle.hc_scope.specs.Nodes.{nodes}

-- ---- items

-- what the items so far have made: the context behind them, the clock pin and the body of `main`
pub record Items : Type 0 where
  pub context : Context
  pub clock : Option (List ℕ)
  pub main : Option Block

abbrev pub in_context : Items → Context → Items
in_context i c = record { context = c; clock = i.clock; main = i.main }

-- a second `set clock` or `main` breaks S5
abbrev pub with_clock : Items → Place → List ℕ → Option (List ℕ) → Expansion Items
with_clock i place pin (Some other) = refuse S5 place (Name (codes "clock"))
with_clock i place pin None = pure (record { context = i.context; clock = Some pin; main = i.main })

abbrev pub with_main : Items → Place → Block → Option Block → Expansion Items
with_main i place body (Some other) = refuse S5 place (Name (codes "main"))
with_main i place body None = pure (record { context = i.context; clock = i.clock; main = Some body })

unfoldable pub item_form : Parts → Items → Item → Expansion Items
item_form p i (item.Clock place pin with_list) = with_clock i place pin i.clock
item_form p i (item.Family place x) = pure i
item_form p i (item.Part place part) = pure i
item_form p i (item.Decl declared) = in_context i <$> declaration p i.context declared
item_form p i (item.Interface port) = in_context i <$> interface_form p i.context port
item_form p i (item.Macro m) = in_context i <$> macro_form i.context m
item_form p i (item.Main place says_void body) = with_main i place body i.main

abbrev pub decl_place : Decl → Place
decl_place (d.Vars place is_static of vars with_list) = place
decl_place (d.Memories place is_static which of memories with_list) = place
decl_place (d.Signals place of signals with_list) = place
decl_place (d.Chans place of channels with_list) = place

abbrev pub interface_place : Interface → Place
interface_place (interface.BusIn place of port x with_list) = place
interface_place (interface.BusOut place x of port v with_list) = place

abbrev pub item_place : Item → Place
item_place (item.Clock place pin with_list) = place
item_place (item.Family place x) = place
item_place (item.Part place part) = place
item_place (item.Decl declared) = decl_place declared
item_place (item.Interface port) = interface_place port
item_place (item.Macro m) = macro_place m
item_place (item.Main place says_void body) = place

abbrev pub items : Parts → Items → List Item → Expansion Items
items p i [] = pure i
items p i (x ∷ rest) = visit false 0 (item_place x) >> item_form p i x >>= (λ j. items p j rest)

-- ---- whole trees

-- the objects, the statement of `main` and the clock pin
pub record Program : Type 0 where
  pub objects : List Object
  pub main : Statement
  pub clock : List ℕ

abbrev pub first_place : Place
first_place = record { line = 1; column = 1 }

abbrev pub is_clock : Item → Bool
is_clock (item.Clock place pin with_list) = true
is_clock _ = false

abbrev pub is_main : Item → Bool
is_main (item.Main place says_void body) = true
is_main _ = false

-- the body of `main` is expanded behind all items
abbrev pub main_of : Context → Option (List ℕ) → Option Block → Expansion Program
main_of c None main = refuse S23 first_place (Name (codes "clock"))
main_of c (Some clock) None = refuse S23 first_place (Name (codes "main"))
main_of c (Some clock) (Some body) = do
  parts ← (nodes 2001).block c body
  objects ← made
  pure (record { objects = objects; main = Seq (out-Block body).place (in_order parts); clock = clock })

abbrev pub whole : List Item → Expansion Program
whole all =
    items (nodes 2000) (record { context = record { scope = opened outside; calls = 0 }; clock = None; main = None }) all >>= (λ i. main_of i.context i.clock i.main)

-- a tree without a clock breaks S23 before all others, then one without `main`
abbrev pub checked : List Item → Bool → Bool → Expansion Program
checked all false has_main = refuse S23 first_place (Name (codes "clock"))
checked all true false = refuse S23 first_place (Name (codes "main"))
checked all true true = whole all

unfoldable pub expansion : Tree → Outcome Program
expansion tree = checked tree.items (list_any is_clock tree.items) (list_any is_main tree.items) (record { objects = []; visited = 0 })

-- the program of a core
abbrev pub program_of : Core → Program
program_of core = record { objects = core.objects; main = statement core.main; clock = core.clock }

-- the tree expands to this core
abbrev pub Expands : Tree → Core → Type 0
Expands tree core = (s : State) × (expansion tree ≡ Yields (program_of core) s)

-- the tree is refused
abbrev pub Stops : Tree → Refusal → Type 0
Stops tree refusal = expansion tree ≡ Refuses refusal
