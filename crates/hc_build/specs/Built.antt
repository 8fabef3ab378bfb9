-- The forms that are built so far: registers, arrays, inputs and outputs, and the statements and expressions that control is built
-- of. Which form of a core comes first that isn't built is this project's own.
use Rattle.std.specs.Prelude.{◌≡◌, ◌≤◌, ℕ, Bool, true, false, not, Option, Some, None}
use Rattle.hc_tree.specs.declared.place.Place.{Place}
use Rattle.hc_core.specs.FirstPlace.{first_where, first_found}
use Rattle.hc_core.specs.Rules.{Found, nameless, endless, repeats_label}
use Rattle.hc_core.specs.Read.{expression, statement}
use Rattle.hc_core.specs.Sound.{IsSound}
use Rattle.hc_core.specs.Weight.{weight_of}
use Rattle.hc_core.specs.declared.object.Kind.{Kind}
use Rattle.hc_core.specs.declared.object.Kind.TheVariants as kind
use Rattle.hc_core.specs.declared.object.Core.{Core}
use Rattle.hc_rules.specs.Weight.{most_weight}
use Rattle.hc_control.specs.Built.{is_built_expression, unbuilt_form}

-- an output's expression belongs to the output
abbrev pub is_built_kind : Kind → Bool
is_built_kind (kind.Reg w s init) = true
is_built_kind (kind.Array w s n init) = true
is_built_kind (kind.Ram w s n init) = false
is_built_kind (kind.Rom w s n init) = false
is_built_kind (kind.Signal w s unset) = false
is_built_kind (kind.Chan w s queue) = false
is_built_kind (kind.Input w s pins) = true
is_built_kind (kind.Output w s pins value) = is_built_expression (expression value)

-- an object that isn't built
abbrev pub unbuilt_kind : ℕ → Kind → Found
unbuilt_kind k kind = nameless (not (is_built_kind kind))

-- the place of what is found
abbrev pub place_of : Option (Place × Option ℕ) → Option Place
place_of None = None
place_of (Some found) = Some found.0

-- the place of the first form of a core that isn't built: objects by number, then statements
unfoldable pub unbuilt : Core → Option Place
unbuilt core = place_of (first_found unbuilt_kind unbuilt_form core)

-- A core that can be built: it is sound, within the limit of the weight, and of built forms alone; no loop in it has a body that
-- may take no clock, and no `switch` a label twice.
pub record IsBuildable (core : Core) : Type 0 where
  pub sound : IsSound core
  pub light : weight_of core ≤ most_weight
  pub loops : first_where endless (statement core.main) ≡ None
  pub labels : first_where repeats_label (statement core.main) ≡ None
  pub built : unbuilt core ≡ None
