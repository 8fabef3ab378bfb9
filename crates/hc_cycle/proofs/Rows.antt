-- Worked rows of the numbers of nodes, computed.
use Rattle.std.proofs.Common.{◌≡◌, ℕ, List, [], ◌∷◌, Some, None, refl}
use Rattle.hc_tree.specs.declared.refusal.Node.{Node}
use Rattle.hc_tree.specs.declared.refusal.Node.TheVariants.{Value, Sends, Receives}
use Rattle.hc_cycle.specs.Ranks.{rank_of}

-- a signal, and a channel of which the sends stand twice
abbrev pairs : List (Node × ℕ)
pairs = (Value 3, 1) ∷ (Sends 4, 5) ∷ (Receives 4, 3) ∷ (Sends 4, 9) ∷ []

value : rank_of (Value 3) pairs ≡ Some 1
value = refl

first_sends : rank_of (Sends 4) pairs ≡ Some 5
first_sends = refl

receives : rank_of (Receives 4) pairs ≡ Some 3
receives = refl

-- the number of the object alone makes no node
other_kind : rank_of (Value 4) pairs ≡ None
other_kind = refl

other_object : rank_of (Sends 3) pairs ≡ None
other_object = refl

none : rank_of (Value 3) [] ≡ None
none = refl
