-- What is found in the graph of a core (this project's own).
use Rattle.std.specs.Prelude.{◌≡◌, ℕ, List, [], ◌∷◌, ◌++◌, map, Bool, true, false, not, Some, slice_get, All}
use Rattle.std.specs.List.{Contains}
use Rattle.hc_tree.specs.declared.place.Place.{Place}
use Rattle.hc_tree.specs.declared.refusal.Node.{Node}
use Rattle.hc_tree.specs.declared.refusal.Node.TheVariants.{Value, Sends, Receives}
use Rattle.hc_tree.specs.declared.refusal.Rule.TheVariants.{S17}
use Rattle.hc_tree.specs.declared.refusal.Detail.TheVariants as detail
use Rattle.hc_tree.specs.declared.refusal.Refusal.{Refusal}
use Rattle.hc_core.specs.Depends.{nodes_of, Cyclic, IsCycle, IsOrder}
use Rattle.hc_core.specs.declared.object.Object.{Object}
use Rattle.hc_core.specs.declared.object.Core.{Core}
use Rattle.hc_core.specs.declared.object.Kind.{Kind}
use Rattle.hc_core.specs.declared.object.Kind.TheVariants as kind
use Rattle.hc_cycle.specs.Ranks.{AreInOrder}
use Rattle.hc_cycle.specs.Order.{object_of}
use Rattle.hc_cycle.specs.declared.ordering.Found.{Found}
use Rattle.hc_cycle.specs.declared.ordering.Found.TheVariants.{Order, Cycle}

-- an order of the nodes of a core that has no cycle, or a cycle of nodes of its objects
abbrev pub IsFound : Core → Found → Type 0
IsFound core (Order pairs) = IsOrder core pairs × AreInOrder pairs × (Cyclic core → ⊥)
IsFound core (Cycle nodes) = IsCycle core nodes

-- whether a node is that of a signal, RAM or ROM
abbrev pub is_value : Node → Bool
is_value (Value k) = true
is_value (Sends k) = false
is_value (Receives k) = false

-- whether an object of a kind has such a node
abbrev pub has_node : Kind → Node → Bool
has_node (kind.Reg w s init) n = false
has_node (kind.Array w s l init) n = false
has_node (kind.Ram w s l init) n = is_value n
has_node (kind.Rom w s l init) n = is_value n
has_node (kind.Signal w s unset) n = is_value n
has_node (kind.Chan w s queue) n = not (is_value n)
has_node (kind.Input w s pins) n = false
has_node (kind.Output w s pins value) n = false

-- A node is one of a core, with the name of its object.
pub record IsNamed (core : Core) (named : Node × List ℕ) : Type 0 where
  pub node_is : Contains (nodes_of core) named.0
  pub object : Object
  pub object_is : slice_get core.objects (object_of named.0) ≡ Some object
  pub name_is : named.1 ≡ object.name

-- a place is that of the declaration of the first node's object
abbrev pub IsDeclaredAt : Core → List Node → Place → Type 0
IsDeclaredAt core [] place = ⊥
IsDeclaredAt core (first ∷ others) place = (object : Object) × (slice_get core.objects (object_of first) ≡ Some object) × (place ≡ object.place)

-- A refusal shows a cycle of a core, with the names of the objects, at the declaration of the first one.
pub record ShowsCycle (core : Core) (refusal : Refusal) : Type 0 where
  pub rule_is : refusal.rule ≡ S17
  pub named : List (Node × List ℕ)
  pub detail_is : refusal.detail ≡ detail.Cycle named
  pub cycle : IsCycle core (map (λ n. n.0) named)
  pub names : All (IsNamed core) named
  pub declared : IsDeclaredAt core (map (λ n. n.0) named) refusal.place

-- A node is added, with the name of its object.
pub record AddsName (core : Core) (old new : List (Node × List ℕ)) (node : Node) : Type 0 where
  pub name : List ℕ
  pub new_is : new ≡ old ++ (node, name) ∷ []
  pub named : IsNamed core (node, name)
