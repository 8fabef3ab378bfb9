-- Where a rule finds nothing in a statement, it finds nothing in the statement itself and nothing in its parts.
use Rattle.std.proofs.Common.{◌≡◌, ℕ, Bool, true, false, not, Option, Some, None, refl}
use Rattle.hc_tree.specs.declared.place.Place.{Place}
use Rattle.hc_core.specs.FirstPlace.{first_of, here_or}
use Rattle.hc_core.specs.Rules.{nameless}

pub none_first : {A : Type 0} (a b : Option A) → first_of a b ≡ None → (a ≡ None) × (b ≡ None)
none_first None b h = (refl, h)
none_first (Some found) b h = absurd cc

pub none_here : {A : Type 0} (found : Option A) (place : Place) (within : Option (Place × A)) → here_or place found within ≡ None → (found ≡ None) × (within ≡ None)
none_here (Some found) place within h = absurd cc
none_here None place within h = (refl, h)

-- something is found
pub not_none : {A : Type 0} (found : A) → Some found ≡ None → ⊥
not_none found e = cc

pub unbroken : (broken : Bool) → nameless broken ≡ None → broken ≡ false
unbroken true h = absurd cc
unbroken false h = refl

pub built_here : (built : Bool) (place : Place) (within : Option (Place × Option ℕ)) → here_or place (nameless (not built)) within ≡ None → (built ≡ true) × (within ≡ None)
built_here true place within h = (refl, h)
built_here false place within h = absurd cc

pub none_within : (built : Bool) (place : Place) (within : Option (Place × Option ℕ)) → here_or place (nameless (not built)) within ≡ None → within ≡ None
none_within built place within h = (built_here built place within h).1
