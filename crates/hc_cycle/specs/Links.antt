-- The dependencies of a core as one graph: its nodes by their numbers, each of which leads to the set of those that it depends
-- on, and behind them the unions of a table, each of which leads to the two sets that it has (this project's own).
use Rattle.std.specs.Prelude.{◌≡◌, ◌<◌, ℕ, zero, suc, ◌+◌, ◌*◌, ◌/◌, ◌%◌, nat_lt, slice_index, slice_set, List, [], ◌∷◌, ◌++◌, map, length, Option, Some, None, slice_get}
use Rattle.std.specs.List.{Contains}
use Rattle.hc_tree.specs.declared.refusal.Node.{Node}
use Rattle.hc_tree.specs.declared.refusal.Node.TheVariants.{Value, Sends, Receives}
use Rattle.hc_core.specs.Depends.{Need, Depends}
use Rattle.hc_core.specs.declared.object.Core.{Core}
use Rattle.hc_core.specs.Instant.{where_it}
use Rattle.hc_graph.specs.declared.graph.Fork.{Fork}
use Rattle.hc_cycle.specs.Ranks.{is_same, number_of}
use Rattle.hc_cycle.specs.Sets.{Table, Reads, Joins}
use Rattle.hc_cycle.specs.declared.sets.Gather.{Gather}
use Rattle.hc_cycle.specs.declared.sets.Set.{Set}
use Rattle.hc_cycle.specs.declared.sets.Set.TheVariants.{Empty, One, Union}

-- what a node depends on by these dependencies
abbrev pub on_of : Node → List Need → List Node
on_of node [] = []
on_of node (need ∷ rest) = where_it (is_same need.node node) need.on ++ on_of node rest

-- pairs of a node and a set are these dependencies, in their order
abbrev pub Aligned : Table → List (Node × Set) → List Need → Type 0
Aligned table [] [] = Unit {0}
Aligned table [] (need ∷ needs) = ⊥
Aligned table (pair ∷ pairs) [] = ⊥
Aligned table (pair ∷ pairs) (need ∷ needs) = (pair.0 ≡ need.node) × Reads table pair.1 need.on × Aligned table pairs needs

-- By its number each node has the set of those that it depends on.
pub record AreHeads (table : Table) (heads : List Set) (needs : List Need) : Type 0 where
  pub reads : (n : Node) (s : Set) → slice_get heads (number_of n) ≡ Some s → Reads table s (on_of n needs)
  pub inside : (n m : Node) → Contains (on_of n needs) m → number_of n < length heads

-- A node of a core depends on another exactly where these dependencies say so.
pub record AreNeeds (core : Core) (needs : List Need) : Type 0 where
  pub there : (a b : Node) → Depends core a b → Contains (on_of a needs) b
  pub back : (a b : Node) → Contains (on_of a needs) b → Depends core a b

-- By its number each node of a core has the set of those that it depends on.
pub record HasHeads (core : Core) (table : Table) (heads : List Set) : Type 0 where
  pub needs : List Need
  pub are : AreNeeds core needs
  pub heads_are : AreHeads table heads needs

-- A set is added to that of a node.
pub record AddsHead (old new : Gather) (heads heads' : List Set) (pair : Node × Set) : Type 0 where
  pub before : Set
  pub after : Set
  pub before_is : slice_get heads (number_of pair.0) ≡ Some before
  pub joins : Joins old new before pair.1 after
  pub heads_are : heads' ≡ slice_set heads (number_of pair.0) after

-- the number of a set in a graph with so many nodes in front of its unions
abbrev pub number_in : ℕ → Set → Option ℕ
number_in base Empty = None
number_in base (One n) = Some (number_of n)
number_in base (Union k) = Some (base + k)

-- where a node leads to that has this set
abbrev pub head_fork : ℕ → Set → Fork
head_fork base s = record { first = number_in base s; second = None }

-- where a union leads to
abbrev pub union_fork : ℕ → Option (Set × Set) → Fork
union_fork base None = record { first = None; second = None }
union_fork base (Some p) = record { first = number_in base p.0; second = number_in base p.1 }

abbrev pub graph_of : List Set → Table → List Fork
graph_of heads table = map (head_fork (length heads)) heads ++ map (union_fork (length heads)) table

-- a set that is a node stands in front of the unions
abbrev pub IsBelow : ℕ → Set → Type 0
IsBelow base Empty = Unit {0}
IsBelow base (One n) = number_of n < base
IsBelow base (Union k) = Unit {0}

abbrev pub AreBelow : ℕ → Option (Set × Set) → Type 0
AreBelow base None = Unit {0}
AreBelow base (Some p) = IsBelow base p.0 × IsBelow base p.1

-- A graph has the nodes with these sets and the unions of a table.
pub record IsGraphOf (heads : List Set) (table : Table) (graph : List Fork) : Type 0 where
  pub graph_is : graph ≡ graph_of heads table
  pub heads_below : (k : ℕ) (s : Set) → slice_get heads k ≡ Some s → IsBelow (length heads) s
  pub unions_below : (k : ℕ) (u : Option (Set × Set)) → slice_get table k ≡ Some u → AreBelow (length heads) u

-- the node of an object, by its kind
abbrev pub node_at : ℕ → ℕ → Node
node_at k zero = Value k
node_at k (suc zero) = Sends k
node_at k (suc (suc more)) = Receives k

-- the node that has a number
abbrev pub node_of : ℕ → Node
node_of v = node_at (v / 3) (v % 3)

-- the nodes that stand in front of the unions, among nodes of a graph
abbrev pub nodes_in : ℕ → List ℕ → List Node
nodes_in base [] = []
nodes_in base (v ∷ rest) = where_it (nat_lt v base) (node_of v ∷ []) ++ nodes_in base rest

-- the rank of a node by the numbers that sorting gives
abbrev pub ranked : List ℕ → Node → Node × ℕ
ranked ranks n = (n, 2 * slice_index ranks (number_of n) + 1)
