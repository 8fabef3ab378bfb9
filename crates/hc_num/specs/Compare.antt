-- Comparisons of two numbers of one type (the Handel-C manual, "Relational operators").
use Rattle.std.specs.Prelude.{Bool, false, ◌==◌, nat_lt, int_lt, if◌then◌else◌}
use Rattle.hc_num.specs.Number.{Number, signed_value}

-- an answer as a number of one bit without a sign: 1 for yes and 0 for no
abbrev pub truth : Bool → Number
truth holds = record { width = 1; signed = false; bits = if holds then 1 else 0 }

-- a == b
abbrev pub is_equal : Number → Number → Bool
is_equal a b = a.bits == b.bits

-- a < b: by the signed values where the numbers are signed
abbrev pub is_less : Number → Number → Bool
is_less a b = if a.signed then int_lt (signed_value a) (signed_value b) else nat_lt a.bits b.bits
