-- The bench of the tests.
use Rattle.std.specs.Prelude.{ℕ, ◌+◌, ◌%◌, ◌==◌, List, [], ◌∷◌, slice_index, if◌then◌else◌}
use Rattle.hc_stim.specs.Bench.{Outcome, Done, Conflict}

-- the next sum of bytes
abbrev pub sum_step : ℕ → List ℕ → Outcome ℕ
sum_step sum inputs =
    let next = (sum + slice_index inputs 0) % 256 in
    if slice_index inputs 0 == 255 then Conflict 7 else Done (next ∷ []) next
