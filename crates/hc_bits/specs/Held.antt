-- The number that nets hold, lowest bit first.
use Rattle.std.specs.Prelude.{ℕ, List, length, map, Bool}
use Rattle.hc_num.specs.Number.{Number}
use Rattle.hc_net.specs.Bits.{number}

-- the nets as a number with or without a sign, by the bit of each net
abbrev pub held : Bool → (ℕ → Bool) → List ℕ → Number
held signed v nets = record { width = length nets; signed = signed; bits = number (map v nets) }
