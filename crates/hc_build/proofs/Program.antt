-- All parts of a core of built forms are built.
use Rattle.std.proofs.Common.{◌≡◌, ℕ, zero, suc, ◌+◌, List, [], ◌∷◌, Bool, true, false, Option, Some, None, refl, subst}
use Rattle.std.specs.Prelude.{◌&&◌, slice_get, All}
use Rattle.hc_core.specs.FirstPlace.{first_of, first_object}
use Rattle.hc_core.specs.Read.{statement}
use Rattle.hc_core.specs.Typed.{kinds_of}
use Rattle.hc_core.specs.declared.object.Kind.{Kind}
use Rattle.hc_core.specs.declared.object.Object.{Object}
use Rattle.hc_core.specs.declared.object.Core.{Core}
use Rattle.hc_tree.specs.declared.place.Place.{Place}
use Rattle.hc_control.specs.Built.{unbuilt_statement}
use Rattle.hc_control.specs.Listing.{actions_in}
use Rattle.hc_control.specs.Uses.{IsBuiltAction}
use Rattle.hc_control.proofs.NoneFound.{none_first, built_here}
use Rattle.hc_control.proofs.UsesReady.{built_actions}
use Rattle.hc_build.specs.Built.{is_built_kind, unbuilt_kind, place_of, unbuilt, IsBuildable}
use Rattle.hc_build.specs.Sources.{AreBuiltOutputs}

-- ---- no form is unbuilt

no_place : (found : Option (Place × Option ℕ)) → place_of found ≡ None → found ≡ None
no_place None h = refl
no_place (Some found) h = absurd (let no : Some found.0 ≡ None = h in cc)

pub both_of : (a b : Bool) → (a && b) ≡ true → (a ≡ true) × (b ≡ true)
both_of true b h = (refl, h)
both_of false b h = absurd (let no : false ≡ true = h in cc)

-- both parts of a core have no form that isn't built
none_unbuilt : (core : Core) → unbuilt core ≡ None → (first_object unbuilt_kind 0 core.objects ≡ None) × (unbuilt_statement (statement core.main) ≡ None)
unfolding unbuilt
none_unbuilt core h =
    none_first (first_object unbuilt_kind 0 core.objects) (unbuilt_statement (statement core.main)) (no_place (first_of (first_object unbuilt_kind 0 core.objects) (unbuilt_statement (statement core.main))) h)

-- ---- statements are built

pub core_main : (core : Core) → IsBuildable core → unbuilt_statement (statement core.main) ≡ None
core_main core can = (none_unbuilt core can.built).1

pub core_actions : (core : Core) → IsBuildable core → All (IsBuiltAction (kinds_of core.objects)) (actions_in (statement core.main))
core_actions core can = built_actions (kinds_of core.objects) (statement core.main) (core_main core can) can.sound.main

-- ---- objects are built

kinds_built : (from : ℕ) (objects : List Object) → first_object unbuilt_kind from objects ≡ None → (k : ℕ) (kind : Kind) → slice_get (kinds_of objects) k ≡ Some kind → is_built_kind kind ≡ true
kinds_built from [] h k kind e = absurd cc
kinds_built from (o ∷ rest) h zero kind e =
    let both = built_here (is_built_kind o.kind) o.place (first_object unbuilt_kind (from + 1) rest) h in
    subst (λ (x : Kind). is_built_kind x ≡ true) (let is : o.kind ≡ kind = cc in is) both.0
kinds_built from (o ∷ rest) h (suc k) kind e =
    let both = built_here (is_built_kind o.kind) o.place (first_object unbuilt_kind (from + 1) rest) h in
    kinds_built (from + 1) rest both.1 k kind e

pub core_kinds : (core : Core) → IsBuildable core → (k : ℕ) (kind : Kind) → slice_get (kinds_of core.objects) k ≡ Some kind → is_built_kind kind ≡ true
core_kinds core can = kinds_built 0 core.objects (none_unbuilt core can.built).0

pub built_outputs : (core : Core) → IsBuildable core → AreBuiltOutputs (kinds_of core.objects)
built_outputs core can = core_kinds core can
