-- Bits that are moved down, lowest bit first, and a net that may be left out for zeros.
use Rattle.std.specs.Prelude.{ℕ, ◌+◌, List, [], ◌∷◌, length, map, slice_index_or, Bool, false, Option, Some, None}
use Rattle.std.specs.List.{range_with_len}

-- the bits n places further up, where above the highest one stands `fill`
abbrev pub moved : ℕ → Bool → List Bool → List Bool
moved n fill bits = map (λ i. slice_index_or bits (i + n) fill) (range_with_len 0 (length bits))

-- the bit of a net, and 0 where there is none
abbrev pub bit_of : (ℕ → Bool) → Option ℕ → Bool
bit_of v None = false
bit_of v (Some net) = v net

-- the net, if there is one
abbrev pub nets_of : Option ℕ → List ℕ
nets_of None = []
nets_of (Some net) = net ∷ []
