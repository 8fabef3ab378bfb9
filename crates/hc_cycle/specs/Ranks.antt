-- Nodes with their numbers, and the number of a node (this project's own).
use Rattle.std.specs.Prelude.{ℕ, ◌+◌, ◌*◌, ◌<◌, Bool, false, ◌==◌, AllPairs, if◌then◌else◌, List, [], ◌∷◌, Option, Some, None}
use Rattle.hc_tree.specs.declared.refusal.Node.{Node}
use Rattle.hc_tree.specs.declared.refusal.Node.TheVariants.{Value, Sends, Receives}

-- whether two nodes are the same: of one kind and of one object
abbrev pub is_same : Node → Node → Bool
is_same (Value j) (Value k) = j == k
is_same (Value j) (Sends k) = false
is_same (Value j) (Receives k) = false
is_same (Sends j) (Value k) = false
is_same (Sends j) (Sends k) = j == k
is_same (Sends j) (Receives k) = false
is_same (Receives j) (Value k) = false
is_same (Receives j) (Sends k) = false
is_same (Receives j) (Receives k) = j == k

-- the number of the first pair with a node, or None where there is none
abbrev pub rank_of : Node → List (Node × ℕ) → Option ℕ
rank_of node [] = None
rank_of node (pair ∷ rest) = if is_same pair.0 node then Some pair.1 else rank_of node rest

-- the number of a node in the order of nodes, in which the sends of a channel come before its receives
abbrev pub number_of : Node → ℕ
number_of (Value k) = 3 * k
number_of (Sends k) = 3 * k + 1
number_of (Receives k) = 3 * k + 2

-- the pairs stand in the order of their nodes, each node once
abbrev pub AreInOrder : List (Node × ℕ) → Type 0
AreInOrder pairs = AllPairs (λ a b. number_of a.0 < number_of b.0) pairs
