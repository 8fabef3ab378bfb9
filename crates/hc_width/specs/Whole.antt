-- Constants are whole numbers without a width (this project's own).
use Rattle.std.specs.Prelude.{ℕ, zero, suc, ◌-◌, ◌%◌, ◌^◌, Bool, true, false, ◌&&◌, ℤ, pos, negsuc, neg_ℤ, int_le, int_lt, Option, Some, None, if◌then◌else◌}
use Rattle.hc_num.specs.Number.{Number}

-- the whole number of a sign and a magnitude
abbrev pub signed_whole : Bool → ℕ → ℤ
signed_whole true n = neg_ℤ (pos n)
signed_whole false n = pos n

-- a constant is from -2^127 to 2^128 - 1
abbrev pub in_range : ℤ → Bool
in_range v = int_le (neg_ℤ (pos (2 ^ 127))) v && int_lt v (pos (2 ^ 128))

-- a whole number that is a constant, or none
abbrev pub within_range : ℤ → Option ℤ
within_range v = if in_range v then Some v else None

-- a constant fits a width of w bits from -2^(w-1) to 2^w - 1, whether signed or not
abbrev pub fits : ℕ → ℤ → Bool
fits w v = int_le (neg_ℤ (pos (2 ^ (w - 1)))) v && int_lt v (pos (2 ^ w))

-- a whole number modulo 2^w
abbrev pub modulo : ℕ → ℤ → ℕ
modulo w (pos a) = a % 2 ^ w
modulo w (negsuc a) = 2 ^ w - 1 - a % 2 ^ w

-- a constant as a number of a type
abbrev pub number_in : ℕ → Bool → ℤ → Number
number_in w s v = record { width = w; signed = s; bits = modulo w v }

-- whether a constant holds as a condition
abbrev pub holds : ℤ → Bool
holds (pos zero) = false
holds (pos (suc n)) = true
holds (negsuc n) = true

abbrev pub is_negative : ℤ → Bool
is_negative (pos n) = false
is_negative (negsuc n) = true
