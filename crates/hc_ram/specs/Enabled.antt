-- The bits of several uses of one thing: each use has a net that enables it and a value.
use Rattle.std.specs.Prelude.{◌≡◌, ◌<◌, ℕ, List, [], ◌∷◌, length, map, Bool, false, ◌&&◌, ◌||◌, slice_index_or, All}
use Rattle.std.specs.List.{flat_map}

-- a list of so many nets, all of them among the first n
pub record IsList (n size : ℕ) (nets : List ℕ) : Type 0 where
  pub width : length nets ≡ size
  pub there : All (λ k. k < n) nets

abbrev pub AreLists : ℕ → ℕ → List (List ℕ) → Type 0
AreLists n size lists = All (IsList n size) lists

-- all nets of some lists
abbrev pub all_nets : List (List ℕ) → List ℕ
all_nets lists = flat_map (λ nets. nets) lists

-- whether some use is enabled and has bit i of its value set
abbrev pub any_enabled : (ℕ → Bool) → List ℕ → List (List ℕ) → ℕ → Bool
any_enabled v [] values i = false
any_enabled v (e ∷ enables) [] i = false
any_enabled v (e ∷ enables) (x ∷ values) i = (v e && v (slice_index_or x i 0)) || any_enabled v enables values i

-- bit i of each value
abbrev pub column_nets : List (List ℕ) → ℕ → List ℕ
column_nets values i = map (λ value. slice_index_or value i 0) values
