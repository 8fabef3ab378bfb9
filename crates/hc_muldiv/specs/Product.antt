-- The circuit of a product that keeps as many bits as the first number has.
use Rattle.std.specs.Prelude.{◌≡◌, ℕ, zero, suc, ◌+◌, ◌-◌, ◌*◌, ◌%◌, ◌^◌, List, ◌++◌, length}
use Rattle.hc_net.specs.Circuit.{Circuit}
use Rattle.hc_net.specs.Made.{Makes}
use Rattle.hc_muldiv.specs.Value.{value}

-- the bits of n rows, each one bit higher than the one before it, that end at bit m
abbrev pub row_bits : ℕ → ℕ → ℕ
row_bits m zero = 0
row_bits m (suc n) = m + row_bits (m - 1) n

-- z is the product of x and y, modulo 2 to the power of x's width: a gate for each bit of a row, and 8 for each bit of a sum
abbrev pub MakesProduct : (x y : List ℕ) → (old new : Circuit) → (z : List ℕ) → Type 0
MakesProduct x y old new z = Makes (9 * row_bits (length x) (length y) - 8 * length x) (x ++ y) old new z (λ v. value v z ≡ (value v x * value v y) % 2 ^ length x)
