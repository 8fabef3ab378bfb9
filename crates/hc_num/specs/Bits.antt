-- Operators that take each bit by itself (the Handel-C manual, "Bitwise logical operators").
use Rattle.std.specs.Prelude.{◌-◌, bit_and, bit_or, bit_xor}
use Rattle.hc_num.specs.Number.{Number, all_ones}

-- a & b
abbrev pub conjunction : Number → Number → Number
conjunction a b = record a { bits = bit_and a.bits b.bits }

-- a | b
abbrev pub disjunction : Number → Number → Number
disjunction a b = record a { bits = bit_or a.bits b.bits }

-- a ^ b
abbrev pub exclusive_or : Number → Number → Number
exclusive_or a b = record a { bits = bit_xor a.bits b.bits }

-- ~a: each bit of a turned, so that a and ~a together are all ones
abbrev pub complement : Number → Number
complement a = record a { bits = all_ones a - a.bits }
