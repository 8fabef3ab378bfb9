-- Parts of a number, and two numbers as one (the Handel-C manual, "Bit manipulation operators").
use Rattle.std.specs.Prelude.{ℕ, ◌+◌, ◌-◌, ◌*◌, ◌/◌, ◌%◌, ◌^◌, false}
use Rattle.hc_num.specs.Number.{Number}

-- a <- n: the lowest n bits, with the sign of a
abbrev pub low_part : Number → ℕ → Number
low_part a n = record { width = n; signed = a.signed; bits = a.bits % 2 ^ n }

-- a \\ n: all but the lowest n bits, with the sign of a
abbrev pub high_part : Number → ℕ → Number
high_part a n = record { width = a.width - n; signed = a.signed; bits = a.bits / 2 ^ n }

-- a @ b: the bits of a above those of b, with the sign of a
abbrev pub joined : Number → Number → Number
joined a b = record { width = a.width + b.width; signed = a.signed; bits = a.bits * 2 ^ b.width + b.bits }

-- a[high:low]: the bits from `low` to `high`, both counted from 0, without a sign
abbrev pub bit_range : Number → ℕ → ℕ → Number
bit_range a high low =
    record { width = high - low + 1; signed = false; bits = a.bits / 2 ^ low % 2 ^ (high - low + 1) }
