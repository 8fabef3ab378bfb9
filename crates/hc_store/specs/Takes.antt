-- What a register or an element of an array is after an edge (that at most one write an edge counts is this project's own).
use Rattle.std.specs.Prelude.{◌≡◌, ◌<◌, ℕ, ◌+◌, ◌*◌, List, [], ◌∷◌, ◌++◌, length, map, Bool, true, false, not, ◌&&◌, ◌||◌, slice_index_or, All}
use Rattle.std.specs.List.{flat_map}

-- Of so many writes those that are on say what the next bits are: the present ones where none is on, and those of the one
-- value where one is.
pub record Takes (v : ℕ → Bool) (count : ℕ) (on : ℕ → Bool) (present : List ℕ) (values : List (List ℕ)) (next : List ℕ) : Type 0 where
  pub kept : ((i : ℕ) → i < count → on i ≡ false) → map v next ≡ map v present
  pub taken : (i : ℕ) → i < count → on i ≡ true → ((j : ℕ) → j < count → on j ≡ true → j ≡ i) → map v next ≡ map v (slice_index_or values i [])

-- a value of so many nets, all of them among the first n
pub record IsValue (n size : ℕ) (value : List ℕ) : Type 0 where
  pub width : length value ≡ size
  pub there : All (λ k. k < n) value

abbrev pub AreValues : ℕ → ℕ → List (List ℕ) → Type 0
AreValues n size values = All (IsValue n size) values

-- all nets of some lists
abbrev pub all_nets : List (List ℕ) → List ℕ
all_nets lists = flat_map (λ nets. nets) lists

-- bit i of each value, and behind these that of the present bits
abbrev pub column_nets : List ℕ → List (List ℕ) → ℕ → List ℕ
column_nets present values i = map (λ value. slice_index_or value i 0) values ++ slice_index_or present i 0 ∷ []

-- whether a bit and the one in the same place are both set
abbrev pub some_both : List Bool → List Bool → Bool
some_both (x ∷ xs) (y ∷ ys) = (x && y) || some_both xs ys
some_both (x ∷ xs) [] = false
some_both [] ys = false

-- whether no bit is set
abbrev pub none_of : List Bool → Bool
none_of [] = true
none_of (b ∷ bits) = not b && none_of bits

-- bit i of the values that are on, joined by or, and of the present bits where none is on
abbrev pub joined_bit : (ℕ → Bool) → List ℕ → List ℕ → List (List ℕ) → ℕ → Bool
joined_bit v present enables values i = some_both (map v enables ++ none_of (map v enables) ∷ []) (map v (column_nets present values i))

-- the gates of a register of so many bits that is written so many times: for each bit two for each write and two more, and
-- one for each write and one more that tell whether none is on
abbrev pub hold_gates : ℕ → ℕ → ℕ
hold_gates width writes = width * (2 * (writes + 1)) + (writes + 1)
