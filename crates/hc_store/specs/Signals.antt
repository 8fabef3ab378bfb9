-- What a signal shows in a clock (the Handel-C manual, "Signals"; that values which are assigned in one clock are joined bit by
-- bit is this project's own), and the gates that it takes.
use Rattle.std.specs.Prelude.{ℕ, ◌+◌, List, [], ◌∷◌, map, Bool, bit_or, if◌then◌else◌}
use Rattle.std.specs.List.{range_with_len}
use Rattle.hc_net.specs.Bits.{bit, number}
use Rattle.hc_store.specs.Takes.{hold_gates}

-- of some values, by a bit for each, the numbers of those whose bit is 1, in their order
abbrev pub assigned : (ℕ → Bool) → List Bool → List (List ℕ) → List ℕ
assigned v [] values = []
assigned v (on ∷ ons) [] = []
assigned v (on ∷ ons) (x ∷ values) = if on then number (map v x) ∷ assigned v ons values else assigned v ons values

-- the bitwise or of numbers
abbrev pub or_all : List ℕ → ℕ
or_all [] = 0
or_all (n ∷ rest) = bit_or n (or_all rest)

-- the bitwise or of what is assigned, or the default where nothing is
abbrev pub presented : ℕ → List ℕ → ℕ
presented unset [] = unset
presented unset (n ∷ rest) = or_all (n ∷ rest)

-- the nets of a constant of so many bits: `high` for each bit that is 1, and `low` for each other one
abbrev pub constant_nets : ℕ → ℕ → ℕ → ℕ → List ℕ
constant_nets low high width bits = map (λ i. if bit bits i then high else low) (range_with_len 0 width)

-- the gates of a signal of so many bits that is assigned so many times: two constants, and those of a register
abbrev pub signal_gates : ℕ → ℕ → ℕ
signal_gates width writes = 2 + hold_gates width writes
