-- An element of an array by enables, one for each element. The nets of the elements stand one after another.
use Rattle.std.specs.Prelude.{ℕ, ◌+◌, ◌*◌, List, length, map, replicate, slice_index, Bool, not, ◌&&◌, ◌==◌, nat_lt, if◌then◌else◌}
use Rattle.std.specs.List.{range_with_len}
use Rattle.hc_net.specs.Bits.{number}
use Rattle.hc_bits.specs.Elements.{element_nets}

-- bit `place` of element i, of elements of w bits, where the element's enable is 1
abbrev pub enabled : (ℕ → Bool) → (enables nets : List ℕ) → (w place i : ℕ) → Bool
enabled v enables nets w place i = v (slice_index enables i) && v (slice_index nets (i * w + place))

-- whether bit `place` is 1 in an element whose enable is
abbrev pub chosen : (ℕ → Bool) → (enables nets : List ℕ) → (w place : ℕ) → Bool
chosen v enables nets w place = not (number (map (λ i. enabled v enables nets w place i) (range_with_len 0 (length enables))) == 0)

-- the gates for an element of n of w bits by an index of a bits: those that decode it, and two for each bit of each element
abbrev pub element_gates : (n w a : ℕ) → ℕ
element_gates n w a = n * a + a + w * (2 * n)

-- the nets of element j of n of w bits, and the net `low` for each bit of one outside
abbrev pub fixed_nets : (low n w : ℕ) → List ℕ → ℕ → List ℕ
fixed_nets low n w nets j = if nat_lt j n then element_nets w nets j else replicate w low
