-- A search in depth for a cycle (this project's own).
use Rattle.std.specs.Prelude.{◌≡◌, ◌≢◌, ◌<◌, ◌⊎◌, ℕ, ◌+◌, List, [], ◌∷◌, ◌++◌, Option, Some, length, slice_get, AllPairs}
use Rattle.std.specs.List.{Contains}
use Rattle.hc_graph.specs.declared.graph.Fork.{Fork}
use Rattle.hc_graph.specs.declared.search.Mark.{Mark}
use Rattle.hc_graph.specs.declared.search.Mark.TheVariants.{New, Open, Passed}
use Rattle.hc_graph.specs.Graph.{Leads}

-- how many nodes are new
abbrev pub new_marks : List Mark → ℕ
new_marks [] = 0
new_marks (New ∷ rest) = 1 + new_marks rest
new_marks (Open ∷ rest) = new_marks rest
new_marks (Passed r ∷ rest) = new_marks rest

-- each node leads to the next one
abbrev pub ChainFrom : List Fork → ℕ → List ℕ → Type 0
ChainFrom graph node [] = Unit {0}
ChainFrom graph node (next ∷ rest) = Leads graph node next × ChainFrom graph next rest

abbrev pub Chain : List Fork → List ℕ → Type 0
Chain graph [] = Unit {0}
Chain graph (first ∷ rest) = ChainFrom graph first rest

-- The state of a search: the mark of each node, the path, which has the open nodes, each once, and the number of passed
-- nodes. What a passed node leads to is passed with a smaller number.
pub record IsSearch (graph : List Fork) (marks : List Mark) (path : List ℕ) (passed : ℕ) : Type 0 where
  pub size : length marks ≡ length graph
  pub falls : (a b r : ℕ) → Leads graph a b → slice_get marks a ≡ Some (Passed r) → b < length graph → (q : ℕ) × (slice_get marks b ≡ Some (Passed q)) × (q < r)
  pub below : (a r : ℕ) → slice_get marks a ≡ Some (Passed r) → r < passed
  pub chain : Chain graph path
  pub distinct : AllPairs ◌≢◌ path
  pub on_path : (a : ℕ) → slice_get marks a ≡ Some Open → Contains path a
  pub are_open : (a : ℕ) → Contains path a → slice_get marks a ≡ Some Open
  pub count : new_marks marks + length path + passed ≡ length graph

-- the nodes that a node leads to are passed
abbrev pub LeadsToPassed : List Fork → List Mark → ℕ → Type 0
LeadsToPassed graph marks a = (b : ℕ) → Leads graph a b → b < length graph → (q : ℕ) × (slice_get marks b ≡ Some (Passed q))

-- there is no such node in the graph, or it is passed
abbrev pub IsPassed : List Mark → Option ℕ → Type 0
IsPassed marks node = (b : ℕ) → node ≡ Some b → b < length marks → (q : ℕ) × (slice_get marks b ≡ Some (Passed q))

-- a node that is not passed
abbrev pub IsWaiting : List Mark → ℕ → Type 0
IsWaiting marks a = (slice_get marks a ≡ Some New) ⊎ (slice_get marks a ≡ Some Open)

-- A node that another leads to is not passed.
pub record IsNext (graph : List Fork) (marks : List Mark) (a next : ℕ) : Type 0 where
  pub leads : Leads graph a next
  pub waits : IsWaiting marks next

-- no node becomes new
abbrev pub KeepsMet : List Mark → List Mark → Type 0
KeepsMet old new = (a : ℕ) → slice_get new a ≡ Some New → slice_get old a ≡ Some New

-- The path leads back to one of its nodes.
pub record IsClosed (graph : List Fork) (path : List ℕ) (back : ℕ) : Type 0 where
  pub on_path : Contains path back
  pub chain : Chain graph (path ++ back ∷ [])

-- the end of a path, from this node on
pub record IsFrom (path : List ℕ) (node : ℕ) (nodes : List ℕ) : Type 0 where
  pub before : List ℕ
  pub behind : List ℕ
  pub nodes_are : nodes ≡ node ∷ behind
  pub path_is : path ≡ before ++ node ∷ behind
