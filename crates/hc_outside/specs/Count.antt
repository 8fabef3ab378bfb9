-- Counts of faults. They are this project's own.
use Rattle.std.specs.Prelude.{◌≡◌, ◌<◌, ◌≤◌, ◌-◌, ◌^◌, ℕ, Bool, true}

-- the last value of a count, which a `u64` keeps
abbrev pub last_count : ℕ
last_count = 2 ^ 64 - 1

-- a count has risen, or stands at its last value
abbrev pub HasRisen : ℕ → ℕ → Type 0
HasRisen old new = new < last_count → old < new

-- how a call may move a count: it doesn't fall, and one of a sure object stands still
pub record Moves (sure : Bool) (old new : ℕ) : Type 0 where
  pub no_less : old ≤ new
  pub stands : sure ≡ true → new ≡ old

-- a count is at most its last value, and one of a sure object is below it
pub record IsCount (sure : Bool) (count : ℕ) : Type 0 where
  pub at_most : count ≤ last_count
  pub below : sure ≡ true → count < last_count
