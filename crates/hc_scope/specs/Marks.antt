-- Marks of names, by which most tables that don't have a name are passed over (this project's own).
use Rattle.std.specs.Prelude.{◌≡◌, ℕ, ◌+◌, ◌-◌, ◌*◌, ◌%◌, List, length, slice_index_or, All}
use Rattle.std.specs.Int.{bit_at}
use denote.Bor.{Bor}

-- the mark of a name, by its first byte, its last and how many there are
abbrev pub mark_of : List ℕ → ℕ
mark_of name = (slice_index_or name 0 0 + 5 * slice_index_or name (length name - 1) 0 + 11 * (length name % 64)) % 64

-- Names with what they stand for, in the order of their declarations.
pub record Table (V : Type 0) : Type 0 where
  pub entries : List (Bor (List ℕ) × V)

-- a bit of this number is set for the mark of each name of a table
abbrev pub HasMarks : {V : Type 0} → ℕ → List (Bor (List ℕ) × V) → Type 0
HasMarks marks entries = All (λ entry. bit_at marks (mark_of entry.0.now) ≡ 1) entries
