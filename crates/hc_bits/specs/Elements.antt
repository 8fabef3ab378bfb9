-- The nets of an array, element by element.
use Rattle.std.specs.Prelude.{ℕ, ◌*◌, List, take, drop}

-- the nets of element j of an array whose elements have w bits; one outside has none
abbrev pub element_nets : ℕ → List ℕ → ℕ → List ℕ
element_nets w nets j = take w (drop (j * w) nets)
