-- Labels as they are met one after the other, by their bits (this project's own).
use Rattle.std.specs.Prelude.{ℕ, Bool, false, ◌||◌, ◌==◌, List, [], ◌∷◌, ◌++◌}
use Rattle.std.specs.List.{list_any}
use Rattle.hc_num.specs.Number.{Number}

-- whether one of the labels has bits that were seen before it
abbrev pub meets : List ℕ → List Number → Bool
meets seen [] = false
meets seen (n ∷ rest) = list_any (λ bits. n.bits == bits) seen || meets (seen ++ n.bits ∷ []) rest
