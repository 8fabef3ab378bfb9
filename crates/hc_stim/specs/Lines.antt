-- The lines of a stimulus as it is kept: all numbers in one list.
use Rattle.std.specs.Prelude.{◌≡◌, ◌*◌, ℕ, zero, suc, List, [], ◌∷◌, length, take, drop}
use Rattle.hc_stim.specs.declared.stim.Stim.TheInside.{Inside}

-- so many lines of so many numbers each
abbrev pub lines_of : ℕ → ℕ → List ℕ → List (List ℕ)
lines_of zero inputs values = []
lines_of (suc clocks) inputs values = take inputs values ∷ lines_of clocks inputs (drop inputs values)

abbrev pub lines : Inside → List (List ℕ)
lines s = lines_of s.clocks s.inputs s.values.items

-- each line has its numbers
abbrev pub IsFull : Inside → Type 0
IsFull s = length s.values.items ≡ s.clocks * s.inputs
