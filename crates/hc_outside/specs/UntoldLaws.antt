-- Why what holds of every store and every sink holds of those that tell nothing.
use Rattle.std.specs.Prelude.{◌<◌, ◌^◌, ℕ, Bool, false}
use Rattle.std.proofs.Common.{arith}
use Rattle.hc_outside.specs.Count.{IsCount}
use Rattle.hc_outside.specs.Store.{IsSound, untold_store}

pub untold_count : (n : ℕ) → n < 2 ^ 64 → IsCount false n
untold_count n fits = record { at_most = omega arith; below = λ h. absurd cc }

pub untold_sound : (is_open : Bool) (reads writes : ℕ) → reads < 2 ^ 64 → writes < 2 ^ 64 → IsSound (untold_store is_open reads writes)
untold_sound is_open reads writes reads_fit writes_fit = record {
  disk = tt;
  reads = untold_count reads reads_fit;
  writes = untold_count writes writes_fit;
}
