-- Numbers of a width, with or without a sign, and their two readings (the Handel-C manual, "Types").
use Rattle.std.specs.Prelude.{ℕ, ◌-◌, ◌^◌, ◌%◌, Bool, ℤ, pos, ◌-ℤ◌, nat_le, if◌then◌else◌}

-- a number of `width` bits; `bits` is their value without a sign, below 2^width
pub record Number : Type 0 where
  pub width : ℕ
  pub signed : Bool
  pub bits : ℕ

-- the number of a's type whose bits are n modulo 2^width
abbrev pub wrapped : Number → ℕ → Number
wrapped a n = record { width = a.width; signed = a.signed; bits = n % 2 ^ a.width }

-- the bits of a number of a's type of which each is set
abbrev pub all_ones : Number → ℕ
all_ones a = 2 ^ a.width - 1

-- whether the highest bit of a is set
abbrev pub is_top_set : Number → Bool
is_top_set a = nat_le (2 ^ (a.width - 1)) a.bits

-- a in two's complement: its bits as they are below 2^(width - 1), and 2^width less from there on
abbrev pub signed_value : Number → ℤ
signed_value a = if is_top_set a then pos a.bits -ℤ pos (2 ^ a.width) else pos a.bits
