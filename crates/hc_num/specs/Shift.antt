-- Shifts by any number of places, also by the width and more (the Handel-C manual, "Shift operators").
use Rattle.std.specs.Prelude.{ℕ, ◌+◌, ◌-◌, ◌*◌, ◌/◌, ◌^◌, ◌&&◌, if◌then◌else◌}
use Rattle.hc_num.specs.Number.{Number, wrapped, is_top_set}

-- a << n: zeros enter at the low end, and what passes the width is lost
abbrev pub shifted_left : Number → ℕ → Number
shifted_left a n = wrapped a (a.bits * 2 ^ n)

-- the bits that enter at the high end: the n highest are ones where a is signed and its top bit is set, else all are zeros
abbrev pub entering : Number → ℕ → ℕ
entering a n = if a.signed && is_top_set a then 2 ^ a.width - 2 ^ (a.width - n) else 0

-- a >> n: the lowest n bits are lost, and the bits that enter stand above the rest
abbrev pub shifted_right : Number → ℕ → Number
shifted_right a n = record a { bits = a.bits / 2 ^ n + entering a n }
