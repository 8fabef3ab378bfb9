-- Which objects are used twice in a clock, and the least of them.
use Rattle.std.specs.Prelude.{ℕ, Bool, false, not, ◌&&◌, ◌==◌, if◌then◌else◌, List, [], ◌∷◌, ◌++◌, Option}
use Rattle.std.specs.List.{list_any, flat_map}
use Rattle.hc_core.specs.Rules.{least, repeated}
use Rattle.hc_meaning.specs.Value.{World}
use Rattle.hc_meaning.specs.Control.{Condition, Leaf}
use Rattle.hc_meaning.specs.Clock.{all_writes, cells_written, signals_of, leaf_uses, condition_uses, users, send_offers, receive_offers}

-- whether two cells are one
abbrev pub is_cell : ℕ × ℕ → ℕ × ℕ → Bool
is_cell a b = (a.0 == b.0) && (a.1 == b.1)

-- the registers and arrays of which a cell stands once more behind
abbrev pub written_twice : List (ℕ × ℕ) → List ℕ
written_twice [] = []
written_twice (c ∷ rest) = if list_any (is_cell c) rest then c.0 ∷ written_twice rest else written_twice rest

-- whether two of some numbers differ
abbrev pub differ : List ℕ → Bool
differ [] = false
differ (n ∷ rest) = list_any (λ m. not (m == n)) rest

-- the RAMs and ROMs that are accessed in a clock
abbrev pub accessed_in : List Leaf → List Condition → List ℕ
accessed_in front conditions = flat_map leaf_uses front ++ flat_map condition_uses conditions

-- those of some RAMs and ROMs that have two users
abbrev pub shared : List Leaf → List Condition → List ℕ → List ℕ
shared front conditions [] = []
shared front conditions (k ∷ rest) = if differ (users k front conditions) then k ∷ shared front conditions rest else shared front conditions rest

-- the objects that are used twice: registers and elements that are written, signals that are assigned, RAMs and ROMs that are
-- accessed, channels on which sends or receives are offered
abbrev pub all_used_twice : World → List Leaf → List Condition → List ℕ
all_used_twice w front conditions =
    written_twice (cells_written w.kinds (all_writes w front))
    ++ (repeated (flat_map signals_of front)
    ++ (shared front conditions (accessed_in front conditions)
    ++ (repeated (flat_map send_offers front) ++ repeated (flat_map receive_offers front))))

-- the least object that is used twice
abbrev pub used_twice : World → List Leaf → List Condition → Option ℕ
used_twice w front conditions = least (all_used_twice w front conditions)
