-- Why what holds of every store and every sink holds of those in memory.
use Rattle.std.specs.Prelude.{List, Option, Some, None, is_some, refl, true, ◌≡◌, ◌<◌, ◌^◌, ℕ, length}
use Rattle.std.proofs.Common.{arith}
use Rattle.std.proofs.lemmas.Bool.{eqb-true}
use Rattle.hc_outside.specs.Count.{IsCount}
use Rattle.std.specs.Option.{ForSome}
use Rattle.hc_outside.specs.Plan.{Plan, is_calm}
use Rattle.hc_outside.specs.MemFiles.{File, name_at, names, is_place, disk_of, get-place}
use Rattle.hc_outside.specs.Store.{IsSound, IsSoundDisk}

-- a count that is 0 until a call is to fail
pub calm_sound : (p : Plan) (faults : ℕ) → faults < 2 ^ 64 → (length p.failing ≡ 0 → faults ≡ 0) → IsCount (is_calm p) faults
calm_sound p faults fits calm = record {
  at_most = omega arith;
  below = λ h. let z = calm (eqb-true _ _ h) in omega arith;
}

-- the open file is the one that its place names
pub disk_sound : (files : List File) (place : Option ℕ) → ForSome place (λ i. is_place i (name_at files i) (names files) ≡ true) → IsSoundDisk (is_some place) (disk_of files place)
disk_sound files None there = record { named = refl; there = tt }
disk_sound files (Some i) there = record { named = refl; there = rw (get-place i (name_at files i) files (there i refl)) refl }

pub store_sound : (files : List File) (place : Option ℕ) (p : Plan) (reads writes : ℕ) → reads < 2 ^ 64 → writes < 2 ^ 64
    → (length p.failing ≡ 0 → reads ≡ 0) → (length p.failing ≡ 0 → writes ≡ 0)
    → ForSome place (λ i. is_place i (name_at files i) (names files) ≡ true)
    → IsSound (record { disk = Some (disk_of files place); is_open = is_some place; reads = reads; writes = writes; sure = is_calm p })
store_sound files place p reads writes reads_fit writes_fit calm_reads calm_writes there = record {
  disk = disk_sound files place there;
  reads = calm_sound p reads reads_fit calm_reads;
  writes = calm_sound p writes writes_fit calm_writes;
}
