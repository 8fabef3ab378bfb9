-- Worlds in which each object's number has the object's type.
use Rattle.std.specs.Prelude.{◌<◌, ◌≤◌, ℕ, ◌^◌, List, length, slice_get, slice_index_or}
use Rattle.hc_core.specs.Typed.{kind_width}
use Rattle.hc_core.specs.Weigh.{AreSound}
use Rattle.hc_core.specs.declared.object.Kind.{Kind}
use Rattle.hc_meaning.specs.Value.{Store, World, word_in, inputs_before}
use Rattle.hc_meaning.specs.Clock.{each_from}
use Rattle.hc_meaning.specs.Run.{AreInputs}

-- each number of each object is below 2 to the power of the object's width
abbrev pub HoldsNumbers : List Kind → Store → Type 0
HoldsNumbers kinds store = (k i : ℕ) → word_in store k i < 2 ^ kind_width (slice_get kinds k)

-- so is the number of each signal
abbrev pub AreSignals : List Kind → List ℕ → Type 0
AreSignals kinds signals = (k : ℕ) → slice_index_or signals k 0 < 2 ^ kind_width (slice_get kinds k)

-- a world whose numbers have the types of their objects, and whose RAMs and ROMs are those of the store
pub record IsReadable (w : World) : Type 0 where
  pub sound : AreSound w.kinds
  pub store : HoldsNumbers w.kinds w.store
  pub inputs : AreInputs w.kinds w.inputs
  pub signals : AreSignals w.kinds w.instant.signals

-- an object that is there, and whose width is from 1 to 128
pub record IsPlaced (kinds : List Kind) (k : ℕ) : Type 0 where
  pub there : k < length kinds
  pub least : 1 ≤ kind_width (slice_get kinds k)
  pub most : kind_width (slice_get kinds k) ≤ 128

-- for each object how many inputs stand before it
abbrev pub input_places : List Kind → List ℕ
input_places kinds = each_from (λ k kind. inputs_before kinds k) 0 kinds
