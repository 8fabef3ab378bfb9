-- What an error of `check_rules` says (this project's own).
use Rattle.std.specs.Prelude.{◌≡◌, ℕ, List, Option, Some, None, Result, Ok}
use Rattle.hc_tree.specs.declared.place.Place.{Place}
use Rattle.hc_tree.specs.declared.refusal.Rule.{Rule}
use Rattle.hc_tree.specs.declared.refusal.Refusal.{Refusal}
use Rattle.hc_tree.specs.declared.refusal.FrontErr.{FrontErr}
use Rattle.hc_tree.specs.declared.refusal.FrontErr.TheVariants.{Refused, NoMemory}
use Rattle.hc_core.specs.Rules.{or_else}
use Rattle.hc_core.specs.declared.object.Object.{Object}

-- a refusal of which this holds, or want of memory
abbrev pub IfRefused : FrontErr → (Refusal → Type 0) → Type 0
IfRefused (Refused r) holds = holds r
IfRefused NoMemory holds = Unit {0}

-- the rule is found broken, and this is its refusal
pub record IsBroken {E : Type 0} (objects : List Object) (rule : Rule) (looked : Result (Option (Place × Option ℕ)) E) (r : Refusal) : Type 0 where
  pub found : Option (Place × Option ℕ)
  pub found_is : looked ≡ Ok found
  pub refusal_is : or_else objects rule found None ≡ Some r
