-- What the nets of objects do from clock to clock.
use Rattle.std.specs.Prelude.{◌≡◌, ◌<◌, ℕ, suc, List, [], map, Bool, true, false, Some, slice_get, slice_index, slice_index_or}
use Rattle.std.specs.List.{range_with_len}
use Rattle.hc_core.specs.Typed.{kind_width}
use Rattle.hc_core.specs.declared.expr.Expr.{Expr}
use Rattle.hc_core.specs.declared.object.Kind.{Kind}
use Rattle.hc_core.specs.declared.object.Kind.TheVariants as kind
use Rattle.hc_meaning.specs.Value.{words, initial, inputs_before}
use Rattle.hc_meaning.specs.Clock.{register_cells}
use Rattle.hc_net.specs.Bits.{bit, number}
use Rattle.hc_net.specs.Run.{Trace}
use Rattle.hc_net.specs.Circuit.{History}
use Rattle.hc_bits.specs.Elements.{element_nets}
use Rattle.hc_value.specs.Objects.{nets_of}
use Rattle.hc_value.specs.declared.objects.ObjectNets.{ObjectNets}

-- The constants hold. Registers and arrays begin with their first numbers, and hold after an edge what their sources held
-- before it; inputs have the bits of their numbers, and outputs what their sources hold.
pub record ObjectsRun (kinds : List Kind) (at : ObjectNets) (sources : List (List ℕ)) (trace : Trace) (h : History) : Type 0 where
  pub zero_is : (t : ℕ) → h t at.zero ≡ false
  pub one_is : (t : ℕ) → h t at.one ≡ true
  pub first : (k e : ℕ) → e < register_cells (slice_get kinds k)
      → number (map (h 0) (element_nets (kind_width (slice_get kinds k)) (nets_of at k) e)) ≡ slice_index_or (words (initial kinds) k) e 0
  pub next : (k t : ℕ) → 0 < register_cells (slice_get kinds k) → map (h (suc t)) (nets_of at k) ≡ map (h t) (slice_index_or sources k [])
  pub input : (k w t : ℕ) (s : Bool) (pins : List (List ℕ)) → slice_get kinds k ≡ Some (kind.Input w s pins)
      → map (h t) (nets_of at k) ≡ map (λ i. bit (slice_index (trace t) (inputs_before kinds k)) i) (range_with_len 0 w)
  pub output : (k w t : ℕ) (s : Bool) (pins : List (List ℕ)) (value : Expr) → slice_get kinds k ≡ Some (kind.Output w s pins value)
      → map (h t) (nets_of at k) ≡ map (h t) (slice_index_or sources k [])
