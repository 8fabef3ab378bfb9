-- The limit of the weight of a core (this project's own).
use Rattle.std.specs.Prelude.{ℕ}
use Rattle.hc_tree.specs.declared.refusal.Rule.TheVariants.{L8}
use Rattle.hc_tree.specs.declared.refusal.Detail.TheVariants.{Nothing}
use Rattle.hc_tree.specs.declared.refusal.Refusal.{Refusal}

-- the most that a core may weigh
abbrev pub most_weight : ℕ
most_weight = 2000000

-- L8 names the start of the source
abbrev pub too_heavy : Refusal
too_heavy = record { rule = L8; place = record { line = 1; column = 1 }; detail = Nothing }
