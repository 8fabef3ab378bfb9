-- Arithmetic modulo 2^width on two numbers of one type (the Handel-C manual, "Arithmetic operators"); what a division by 0 gives
-- is this project's own.
use Rattle.std.specs.Prelude.{◌+◌, ◌-◌, ◌*◌, ◌/◌, ◌%◌, ◌^◌, ◌==◌, if◌then◌else◌}
use Rattle.hc_num.specs.Number.{Number, wrapped, all_ones}

-- a + b
abbrev pub sum : Number → Number → Number
sum a b = wrapped a (a.bits + b.bits)

-- a - b: what has to be added to b, modulo 2^width, to get a
abbrev pub difference : Number → Number → Number
difference a b = wrapped a (a.bits + (2 ^ a.width - b.bits))

-- a * b
abbrev pub product : Number → Number → Number
product a b = wrapped a (a.bits * b.bits)

-- -a
abbrev pub negation : Number → Number
negation a = wrapped a (2 ^ a.width - a.bits)

-- a / b, rounded down; all ones where b is 0
abbrev pub quotient : Number → Number → Number
quotient a b = record a { bits = if b.bits == 0 then all_ones a else a.bits / b.bits }

-- a % b; a where b is 0
abbrev pub remainder : Number → Number → Number
remainder a b = record a { bits = if b.bits == 0 then a.bits else a.bits % b.bits }
