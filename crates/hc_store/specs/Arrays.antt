-- What an array is after an edge, and the gates that it takes.
use Rattle.std.specs.Prelude.{◌<◌, ℕ, ◌+◌, ◌*◌, List, [], ◌∷◌, length, map, Bool, ◌&&◌, ◌==◌, if◌then◌else◌, Option, Some, None, slice_index, slice_index_or}
use Rattle.std.specs.List.{sum_by}
use Rattle.hc_net.specs.Bits.{number}
use Rattle.hc_net.specs.Circuit.{node_at, constant_at}
use Rattle.hc_net.specs.declared.node.Node.{Node}
use Rattle.hc_bits.specs.Elements.{element_nets}
use Rattle.hc_store.specs.Takes.{Takes}

-- a number with one more bit below it, where both are known
abbrev pub with_low : Option Bool → Option ℕ → Option ℕ
with_low (Some b) (Some n) = Some ((if b then 1 else 0) + 2 * n)
with_low (Some b) None = None
with_low None n = None

-- the number of nets that all have constants, the lowest bit first
abbrev pub constant_number : List Node → List ℕ → Option ℕ
constant_number nodes [] = Some 0
constant_number nodes (k ∷ ks) = with_low (constant_at (node_at nodes k)) (constant_number nodes ks)

-- the gates for a write to an array of n elements of w bits with an index of a bits, which may be a constant
abbrev pub write_gates : ℕ → ℕ → ℕ → Option ℕ → ℕ
write_gates n w a None = n * (a + 2 * w + 2) + a
write_gates n w a (Some k) = 2 * w + 1

abbrev pub array_gates : List Node → ℕ → ℕ → List (List ℕ) → ℕ
array_gates nodes n w indexes = n * (2 * w + 1) + sum_by (λ index. write_gates n w (length index) (constant_number nodes index)) indexes

-- Each of n elements of w bits takes what is written to it: a write is on for an element where its enable is 1 and its index
-- is the element's.
abbrev pub TakesEach : (ℕ → Bool) → ℕ → ℕ → List ℕ → List (List ℕ) → List ℕ → List (List ℕ) → List ℕ → Type 0
TakesEach v n w enables indexes present values next =
    (j : ℕ) → j < n → Takes v (length enables) (λ i. v (slice_index enables i) && (number (map v (slice_index_or indexes i [])) == j))
    (element_nets w present j) values (element_nets w next j)
