-- Graphs, the numbers that order one, and cycles in one (this project's own).
use Rattle.std.specs.Prelude.{◌≡◌, ◌≢◌, ◌<◌, ◌≤◌, ◌⊎◌, ℕ, List, [], ◌∷◌, Some, length, slice_get, All, AllPairs}
use Rattle.hc_graph.specs.declared.graph.Fork.{Fork}
use Rattle.hc_graph.specs.declared.graph.Sorted.{Sorted}
use Rattle.hc_graph.specs.declared.graph.Sorted.TheVariants.{Ranks, Cycle}

-- One node leads to another.
pub record Leads (graph : List Fork) (a b : ℕ) : Type 0 where
  pub fork : Fork
  pub of : slice_get graph a ≡ Some fork
  pub to : (fork.first ≡ Some b) ⊎ (fork.second ≡ Some b)

-- Each node has a number, below the number of nodes and above those of the nodes that it leads to.
pub record AreRanks (graph : List Fork) (ranks : List ℕ) : Type 0 where
  pub size : length ranks ≡ length graph
  pub below : (a r : ℕ) → slice_get ranks a ≡ Some r → r < length graph
  pub falls : (a b r q : ℕ) → Leads graph a b → slice_get ranks a ≡ Some r → slice_get ranks b ≡ Some q → q < r

-- each node leads to the next one, and the last to this one
abbrev pub Along : List Fork → ℕ → List ℕ → ℕ → Type 0
Along graph node [] to = Leads graph node to
Along graph node (next ∷ rest) to = Leads graph node next × Along graph next rest to

-- A cycle, which is its first node and the others: distinct nodes of the graph of which each leads to the next and the last
-- to the first, the least first.
pub record IsCycleFrom (graph : List Fork) (first : ℕ) (others : List ℕ) : Type 0 where
  pub along : Along graph first others first
  pub distinct : AllPairs ◌≢◌ (first ∷ others)
  pub least : All (λ n. first ≤ n) others

abbrev pub IsCycle : List Fork → List ℕ → Type 0
IsCycle graph [] = ⊥
IsCycle graph (first ∷ others) = IsCycleFrom graph first others

-- what sorting a graph finds
abbrev pub IsSorted : List Fork → Sorted → Type 0
IsSorted graph (Ranks ranks) = AreRanks graph ranks
IsSorted graph (Cycle nodes) = IsCycle graph nodes
