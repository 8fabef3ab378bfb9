-- What control asks of the nets of objects: they are there, and in a clock they hold what the objects are worth in it.
use Rattle.std.specs.Prelude.{◌≡◌, ◌<◌, ℕ, ◌*◌, List, length, map, Bool, true, false, Some, slice_get, slice_index, slice_index_or, All}
use Rattle.hc_num.specs.Number.{Number}
use Rattle.hc_core.specs.Typed.{kind_width}
use Rattle.hc_core.specs.Weigh.{AreSound}
use Rattle.hc_core.specs.declared.object.Kind.{Kind}
use Rattle.hc_core.specs.declared.object.Kind.TheVariants as kind
use Rattle.hc_meaning.specs.Value.{World, words, inputs_before}
use Rattle.hc_meaning.specs.Clock.{register_cells}
use Rattle.hc_net.specs.Bits.{number}
use Rattle.hc_net.specs.Circuit.{Circuit}
use Rattle.hc_net.specs.Seal.{Within}
use Rattle.hc_net.specs.declared.node.Node.{Node}
use Rattle.hc_bits.specs.Elements.{element_nets}
use Rattle.hc_value.specs.Objects.{nets_of, AreNets, HasConstants}
use Rattle.hc_value.specs.declared.objects.ObjectNets.{ObjectNets}
use Rattle.hc_token.specs.Control.{IsNever, IsAlways}

-- how many nets an object has: one for each bit of a register, of all elements of an array, of an input and of an output
abbrev pub net_count : Kind → ℕ
net_count (kind.Reg w s init) = w
net_count (kind.Array w s n init) = n * w
net_count (kind.Ram w s n init) = 0
net_count (kind.Rom w s n init) = 0
net_count (kind.Signal w s unset) = 0
net_count (kind.Chan w s queue) = 0
net_count (kind.Input w s pins) = w
net_count (kind.Output w s pins value) = w

-- Each object has its nets, and the two constants are the gates that give them.
pub record HasPlaces (kinds : List Kind) (nodes : List Node) (at : ObjectNets) : Type 0 where
  pub count : length at.objects ≡ length kinds
  pub each : (k : ℕ) (kind : Kind) → slice_get kinds k ≡ Some kind → AreNets (length nodes) (net_count kind) (nets_of at k)
  pub zero : IsNever nodes at.zero
  pub one : IsAlways nodes at.one
  pub constants : HasConstants (length nodes) at

-- this holds of the nets of each register, array and input
pub record AreAll (P : ℕ → Type 0) (kinds : List Kind) (at : ObjectNets) : Type 0 where
  pub register : (k w : ℕ) (s : Bool) (init : Number) → slice_get kinds k ≡ Some (kind.Reg w s init) → All P (nets_of at k)
  pub array : (k w n : ℕ) (s : Bool) (init : List Number) → slice_get kinds k ≡ Some (kind.Array w s n init) → All P (nets_of at k)
  pub input : (k w : ℕ) (s : Bool) (pins : List (List ℕ)) → slice_get kinds k ≡ Some (kind.Input w s pins) → All P (nets_of at k)

-- What it takes to read expressions from the nets of objects: these are there, and reach no placeholder.
pub record CanRead (kinds : List Kind) (at : ObjectNets) (c : Circuit) : Type 0 where
  pub sound : AreSound kinds
  pub places : HasPlaces kinds c.nodes at
  pub low : AreAll (Within c.nodes 0) kinds at

-- The nets of registers, arrays and inputs hold what these are worth in a world.
pub record IsRead (w : World) (at : ObjectNets) (v : ℕ → Bool) : Type 0 where
  pub count : (k : ℕ) (kind : Kind) → slice_get w.kinds k ≡ Some kind → length (nets_of at k) ≡ net_count kind
  pub words_are : (k e : ℕ) → e < register_cells (slice_get w.kinds k)
      → number (map v (element_nets (kind_width (slice_get w.kinds k)) (nets_of at k) e)) ≡ slice_index_or (words w.store k) e 0
  pub size : (k m n : ℕ) (s : Bool) (init : List Number) → slice_get w.kinds k ≡ Some (kind.Array m s n init) → length (words w.store k) ≡ n
  pub inputs_are : (k m : ℕ) (s : Bool) (pins : List (List ℕ)) → slice_get w.kinds k ≡ Some (kind.Input m s pins)
      → number (map v (nets_of at k)) ≡ slice_index w.inputs (inputs_before w.kinds k)

-- By these bits of the nets all is as in a world over these kinds of objects, the two constants with it.
pub record IsRight (kinds : List Kind) (at : ObjectNets) (w : World) (v : ℕ → Bool) : Type 0 where
  pub kinds_are : w.kinds ≡ kinds
  pub zero : v at.zero ≡ false
  pub one : v at.one ≡ true
  pub read : IsRead w at v
