-- A tree expands to fewer than 2^32 parts: each of at most 1,000,000 nodes pays for 16.
use Rattle.std.proofs.Common.{◌≡◌, ℕ, zero, suc, ◌+◌, ◌^◌, ◌<◌, ◌≤◌, Bool, true, false, List, [], ◌∷◌, Option, Some, None, sym, ap, ◌∙◌, arith}
use Rattle.std.specs.List.{list_any, sum_by}
use Rattle.hc_tree.specs.declared.place.Place.{Place}
use Rattle.hc_tree.specs.declared.item.Item.{Item}
use Rattle.hc_tree.specs.declared.item.Item.TheVariants as item
use Rattle.hc_tree.specs.declared.item.Tree.{Tree}
use Rattle.hc_tree.specs.declared.stmt.Block.{Block, out-Block}
use Rattle.hc_core.specs.Program.{Statement, Seq}
use Rattle.hc_core.specs.Parts.{kind_parts, statement_parts, parts_of}
use Rattle.hc_core.specs.Typed.{kinds_of}
use Rattle.hc_core.specs.declared.object.Core.{Core}
use Rattle.hc_core.specs.declared.object.Object.{Object}
use Rattle.hc_scope.specs.declared.state.State.{State}
use Rattle.hc_scope.specs.Scope.{outside, opened}
use Rattle.hc_scope.specs.Expansion.{Yields, Expansion, ◌>>=◌, pure, made}
use Rattle.hc_scope.specs.Parts.{Context, Parts, ident_of}
use Rattle.hc_scope.specs.Statement.{in_order}
use Rattle.hc_scope.specs.Nodes.{deepest, node, nodes}
use Rattle.hc_scope.specs.Expands.{Items, in_context, with_clock, with_main, item_form, item_place, items, Program, program_of, main_of, whole, is_clock, is_main, checked, expansion, Expands}
use Rattle.hc_expand.proofs.CountedSteps.{Counts, made_parts, none, after, maps, with_more, gives, refuses, visits, visits_only}
use Rattle.hc_expand.proofs.CountedParts.{sequence_parts, block_size, Ends, ends_after, ends_refused, Paid}
use Rattle.hc_expand.proofs.CountedExpressions.{expression_paid, before_index_paid}
use Rattle.hc_expand.proofs.CountedDeclarations.{name_paid, declaration_paid, interface_paid}
use Rattle.hc_expand.proofs.CountedStatements.{simple_paid, step_paid}
use Rattle.hc_expand.proofs.CountedForms.{macro_few, block_paid, arm_paid, case_paid, case_adds, other_paid, statement_paid}

-- ---- nodes

deepest_paid : Paid deepest
deepest_paid = record {
  leaf = λ c place. visits _ _ _ refuses;
  name = λ c t x. visits _ _ _ refuses;
  expression = λ c x. visits _ _ _ refuses;
  before_index = λ c x. visits _ _ _ refuses;
  simple = λ c x. visits _ _ _ refuses;
  step = λ c x v s. visits _ _ _ refuses;
  statement = λ c s. visits _ _ _ refuses;
  block = λ c b. visits _ _ _ refuses;
  arm = λ c w s a. visits _ _ _ refuses;
  case = λ c x. visits _ _ _ refuses;
  adds = λ c x. ends_after _ (λ u. ends_refused);
  other = λ c x. visits _ _ _ refuses;
}

-- one part is left of the node of a block
left_of_block : {p : Expansion (List Statement)} → Counts 0 sequence_parts p → Counts 16 block_size p
left_of_block c = record { few = λ s a t is. let f = c.few s a t is in omega arith; limited = c.limited }

node_paid : (p : Parts) → Paid p → Paid (node p)
node_paid p paid = record {
  leaf = λ c place. visits_only _ _ _;
  name = λ c t x. visits _ _ _ (with_more (omega arith) (name_paid p paid c (ident_of x) t x));
  expression = λ c x. visits _ _ _ (expression_paid p paid c x);
  before_index = λ c x. visits _ _ _ (before_index_paid p paid c x);
  simple = λ c x. visits _ _ _ (with_more (omega arith) (simple_paid p paid c x));
  step = λ c x v s. visits _ _ _ (with_more (omega arith) (step_paid p paid c x v s));
  statement = λ c s. visits _ _ _ (statement_paid p paid c s);
  block = λ c b. visits _ _ _ (left_of_block (block_paid p paid c b));
  arm = λ c w s a. visits _ _ _ (with_more (omega arith) (arm_paid p paid c w s a));
  case = λ c x. visits _ _ _ (with_more (omega arith) (case_paid p paid c x));
  adds = λ c x. ends_after _ (λ u. case_adds p paid c x);
  other = λ c x. visits _ _ _ (with_more (omega arith) (other_paid p paid c x));
}

pub nodes_paid : (room : ℕ) → Paid (nodes room)
unfolding nodes
nodes_paid zero = deepest_paid
nodes_paid (suc room) = node_paid (nodes room) (nodes_paid room)

-- ---- items

clock_few : (i : Items) (place : Place) (pin : List ℕ) (clock : Option (List ℕ)) → Counts 0 none (with_clock i place pin clock)
clock_few i place pin (Some other) = refuses
clock_few i place pin None = gives (omega arith)

main_few : (i : Items) (place : Place) (body : Block) (main : Option Block) → Counts 0 none (with_main i place body main)
main_few i place body (Some other) = refuses
main_few i place body None = gives (omega arith)

module _ (p : Parts) (paid : Paid p) where
  item_paid : (i : Items) (x : Item) → Counts 16 none (item_form p i x)
  unfolding item_form
  item_paid i (item.Clock place pin with_list) = with_more (omega arith) (clock_few i place pin i.clock)
  item_paid i (item.Family place x) = gives (omega arith)
  item_paid i (item.Part place part) = gives (omega arith)
  item_paid i (item.Decl declared) = maps 0 (in_context i) (declaration_paid p paid i.context declared) (omega arith) (λ c. omega arith)
  item_paid i (item.Interface port) = maps 1 (in_context i) (interface_paid p paid i.context port) (omega arith) (λ c. omega arith)
  item_paid i (item.Macro m) = maps 0 (in_context i) (macro_few i.context m) (omega arith) (λ c. omega arith)
  item_paid i (item.Main place says_void body) = with_more (omega arith) (main_few i place body i.main)

  items_paid : (i : Items) (list : List Item) → Counts 0 none (items p i list)
  items_paid i [] = gives (omega arith)
  items_paid i (x ∷ rest) = after (visits false 0 (item_place x) (item_paid i x)) (λ j. items_paid j rest)

-- ---- whole trees

-- the parts of the statement of a program
abbrev main_size : Program → ℕ
main_size program = statement_parts program.main

-- the objects of a program are those that are made
abbrev HasObjects : Program → State → Type 0
HasObjects program t = program.objects ≡ t.objects

made_few : Counts 0 none made
made_few = record {
  few = λ s a t is. (
      let state : s ≡ t = cc in
      let once = ap (λ (u : State). u.visited) state in
      let parts = ap made_parts state in
      omega arith);
  limited = λ s a t is within. (
      let state : s ≡ t = cc in
      let once = ap (λ (u : State). u.visited) state in
      omega arith);
}

has_made : (main : Statement) (clock : List ℕ) → Ends HasObjects (made >>= (λ objects. pure (record { objects = objects; main = main; clock = clock })))
has_made main clock = record {
  ends = λ s a t is. (
      let program : Path Program (record { objects = s.objects; main = main; clock = clock }) a = cc in
      let state : s ≡ t = cc in
      sym (ap (λ (x : Program). x.objects) program) ∙ ap (λ (u : State). u.objects) state);
}

main_paid : (c : Context) (clock : Option (List ℕ)) (main : Option Block) → Counts 0 main_size (main_of c clock main)
main_paid c None main = refuses
main_paid c (Some clock) None = refuses
main_paid c (Some clock) (Some body) = after ((nodes_paid 2001).block c body) (λ parts. after made_few (λ objects.
    gives {a = record { objects = objects; main = Seq (out-Block body).place (in_order parts); clock = clock }} (omega arith)))

main_has : (c : Context) (clock : Option (List ℕ)) (main : Option Block) → Ends HasObjects (main_of c clock main)
main_has c None main = ends_refused
main_has c (Some clock) None = ends_refused
main_has c (Some clock) (Some body) = ends_after _ (λ parts. has_made (Seq (out-Block body).place (in_order parts)) clock)

abbrev first_items : Items
first_items = record { context = record { scope = opened outside; calls = 0 }; clock = None; main = None }

whole_paid : (all : List Item) → Counts 0 main_size (whole all)
whole_paid all = after (items_paid (nodes 2000) (nodes_paid 2000) first_items all) (λ i. main_paid i.context i.clock i.main)

whole_has : (all : List Item) → Ends HasObjects (whole all)
whole_has all = ends_after _ (λ (i : Items). main_has i.context i.clock i.main)

checked_paid : (all : List Item) (has_clock has_main : Bool) → Counts 0 main_size (checked all has_clock has_main)
checked_paid all false has_main = refuses
checked_paid all true false = refuses
checked_paid all true true = whole_paid all

checked_has : (all : List Item) (has_clock has_main : Bool) → Ends HasObjects (checked all has_clock has_main)
checked_has all false has_main = ends_refused
checked_has all true false = ends_refused
checked_has all true true = whole_has all

-- no more than 1,000,000 nodes are visited
pub few_visits : (tree : Tree) (p : Program) (s : State) → expansion tree ≡ Yields p s → s.visited ≤ 1000000
unfolding expansion
few_visits tree p s is =
    (checked_paid tree.items (list_any is_clock tree.items) (list_any is_main tree.items)).limited (record { objects = []; visited = 0 }) p s is (omega arith)

-- the objects and the statement of what a tree expands to have fewer than 2^32 parts
pub few_parts : (tree : Tree) (p : Program) (s : State) → expansion tree ≡ Yields p s
    → sum_by kind_parts (kinds_of p.objects) + statement_parts p.main < 2 ^ 32
unfolding expansion
few_parts tree p s is =
    let start : State = record { objects = []; visited = 0 } in
    let few = (checked_paid tree.items (list_any is_clock tree.items) (list_any is_main tree.items)).few start p s is in
    let limit = few_visits tree p s is in
    let has = (checked_has tree.items (list_any is_clock tree.items) (list_any is_main tree.items)).ends start p s is in
    let objects = ap (λ (o : List Object). sum_by kind_parts (kinds_of o)) has in
    omega arith

-- and so has the core
pub few_of_core : (tree : Tree) (core : Core) → Expands tree core → parts_of core < 2 ^ 32
few_of_core tree core is = few_parts tree (program_of core) is.0 is.1
