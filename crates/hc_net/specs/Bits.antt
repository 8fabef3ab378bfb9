-- Numbers and their bits, lowest bit first.
use Rattle.std.specs.Prelude.{ℕ, ◌+◌, ◌*◌, ◌/◌, ◌%◌, ◌^◌, ◌==◌, List, [], ◌∷◌, Bool, if◌then◌else◌}

-- bit i of a number
abbrev pub bit : ℕ → ℕ → Bool
bit n i = (n / 2 ^ i) % 2 == 1

-- the number of a list of bits
abbrev pub number : List Bool → ℕ
number [] = 0
number (b ∷ bits) = (if b then 1 else 0) + 2 * number bits
