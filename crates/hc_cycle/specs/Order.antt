-- The refusal of a cycle of dependencies (this project's own).
use Rattle.std.specs.Prelude.{◌≡◌, ℕ, List, [], ◌∷◌, map, Option, Some, None, slice_get, All}
use Rattle.std.specs.List.{Contains}
use Rattle.hc_tree.specs.declared.place.Place.{Place}
use Rattle.hc_tree.specs.declared.refusal.Node.{Node}
use Rattle.hc_tree.specs.declared.refusal.Node.TheVariants.{Value, Sends, Receives}
use Rattle.hc_tree.specs.declared.refusal.Rule.TheVariants.{S17}
use Rattle.hc_tree.specs.declared.refusal.Detail.TheVariants.{Cycle}
use Rattle.hc_tree.specs.declared.refusal.Refusal.{Refusal}
use Rattle.hc_tree.specs.declared.refusal.FrontErr.{FrontErr}
use Rattle.hc_tree.specs.declared.refusal.FrontErr.TheVariants.{Refused, NoMemory}
use Rattle.hc_core.specs.Depends.{nodes_of, IsCycle}
use Rattle.hc_core.specs.declared.object.Object.{Object}
use Rattle.hc_core.specs.declared.object.Core.{Core}

-- the number of the object of a node
abbrev pub object_of : Node → ℕ
object_of (Value k) = k
object_of (Sends k) = k
object_of (Receives k) = k

-- the name of an object; what is no object has none
abbrev pub name_of : Option Object → List ℕ
name_of None = []
name_of (Some o) = o.name

-- the place of an object's declaration; what is no object stands nowhere
abbrev pub declared_at : Option Object → Place
declared_at None = record { line = 0; column = 0 }
declared_at (Some o) = o.place

-- a node with the name of its object
abbrev pub named : Core → Node → Node × List ℕ
named core node = (node, name_of (slice_get core.objects (object_of node)))

-- the place of the declaration of the first node's object
abbrev pub place_of_first : Core → List Node → Place
place_of_first core [] = declared_at None
place_of_first core (first ∷ others) = declared_at (slice_get core.objects (object_of first))

-- the refusal that names these nodes as a cycle
abbrev pub cycle_refusal : Core → List Node → Refusal
cycle_refusal core nodes = record { rule = S17; place = place_of_first core nodes; detail = Cycle (map (named core) nodes) }

-- A refusal names a cycle of a core, with the names of the objects, at the declaration of the first one.
pub record NamesCycle (core : Core) (refusal : Refusal) : Type 0 where
  pub nodes : List Node
  pub cycle : IsCycle core nodes
  pub is : refusal ≡ cycle_refusal core nodes

-- A refusal names nodes of a core alone.
pub record NamesNodes (core : Core) (refusal : Refusal) : Type 0 where
  pub nodes : List (Node × List ℕ)
  pub detail_is : refusal.detail ≡ Cycle nodes
  pub are : All (λ n. Contains (nodes_of core) n.0) nodes

-- a refusal of which this holds, or want of memory
abbrev pub IfRefused : FrontErr → (Refusal → Type 0) → Type 0
IfRefused (Refused refusal) holds = holds refusal
IfRefused NoMemory holds = Unit {0}
