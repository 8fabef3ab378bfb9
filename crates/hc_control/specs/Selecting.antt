-- The labels of a `switch`: which arms the number of a selector names.
use Rattle.std.specs.Prelude.{◌≡◌, ℕ, ◌+◌, ◌==◌, List, [], ◌∷◌, length, Bool, not, if◌then◌else◌, All}
use Rattle.std.specs.List.{list_any}
use Rattle.hc_num.specs.Number.{Number}
use Rattle.hc_core.specs.Program.{Arms, no_arm, arm}
use Rattle.hc_core.specs.Typed.{IsNumber}

-- whether a bit is as another
abbrev pub same_bit : Bool → Bool → Bool
same_bit x b = if b then x else not x

-- whether these bits are among the values of labels
abbrev pub is_among : ℕ → List Number → Bool
is_among bits values = list_any (λ n. n.bits == bits) values

-- for each arm whether they are among its values
abbrev pub among_each : ℕ → Arms → List Bool
among_each bits no_arm = []
among_each bits (arm values other body rest) = is_among bits values ∷ among_each bits rest

-- how many values the labels have
abbrev pub label_count : Arms → ℕ
label_count no_arm = 0
label_count (arm values other body rest) = length values + label_count rest

-- each value of each arm is a number of this width
abbrev pub AreLabels : ℕ → Arms → Type 0
AreLabels w no_arm = Unit {0}
AreLabels w (arm values other body rest) = All (λ n. IsNumber n × (n.width ≡ w)) values × AreLabels w rest
