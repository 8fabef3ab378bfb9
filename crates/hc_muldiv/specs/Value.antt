-- The number that nets hold, lowest bit first.
use Rattle.std.specs.Prelude.{ℕ, List, map, Bool}
use Rattle.hc_net.specs.Bits.{number}

-- the number without a sign, by the bit of each net
abbrev pub value : (ℕ → Bool) → List ℕ → ℕ
value v nets = number (map v nets)
