-- A core that breaks no rule, is light enough and is of built forms can be built.
use Rattle.std.proofs.Common.{◌≡◌, ℕ, ◌≤◌, List, Option, Some, None, refl}
use Rattle.hc_tree.specs.declared.place.Place.{Place}
use Rattle.hc_tree.specs.declared.refusal.Refusal.{Refusal}
use Rattle.hc_tree.specs.declared.refusal.Rule.{Rule}
use Rattle.hc_tree.specs.declared.refusal.Rule.TheVariants.{S16, S18, S19, S20, S21, S22}
use Rattle.hc_core.specs.FirstPlace.{first_of, first_where, first_object, first_found}
use Rattle.hc_core.specs.Read.{statement}
use Rattle.hc_core.specs.Rules.{first_broken, or_else, refusal_of, endless, both_cases, two_cases, accessed_twice, in_an_output, in_a_case, repeats_label, by_no_object, by_no_statement}
use Rattle.hc_core.specs.Sound.{IsSound}
use Rattle.hc_core.specs.Weight.{weight_of}
use Rattle.hc_core.specs.declared.object.Object.{Object}
use Rattle.hc_core.specs.declared.object.Core.{Core}
use Rattle.hc_rules.specs.Weight.{most_weight}
use Rattle.hc_build.specs.Built.{unbuilt, IsBuildable}

-- ---- a core that breaks no rule

none_first : {A : Type 0} (a b : Option A) → first_of a b ≡ None → (a ≡ None) × (b ≡ None)
none_first None b h = (refl, h)
none_first (Some found) b h = absurd cc

kept : (objects : List Object) (rule : Rule) (found : Option (Place × Option ℕ)) (behind : Option Refusal) → or_else objects rule found behind ≡ None → (found ≡ None) × (behind ≡ None)
kept objects rule None behind h = (refl, h)
kept objects rule (Some found) behind h = absurd (let no : Some (refusal_of objects rule found.0 found.1) ≡ None = h in cc)

-- no loop in it has a body that may take no clock, and no `switch` a label twice
kept_rules : (core : Core) → first_broken core ≡ None → (first_where endless (statement core.main) ≡ None) × (first_where repeats_label (statement core.main) ≡ None)
unfolding first_broken
kept_rules core h =
    let s16 = kept core.objects S16 (first_found by_no_object endless core) _ h in
    let s18 = kept core.objects S18 (first_found (both_cases (statement core.main)) by_no_statement core) _ s16.1 in
    let s19 = kept core.objects S19 (first_found by_no_object two_cases core) _ s18.1 in
    let s20 = kept core.objects S20 (first_found by_no_object accessed_twice core) _ s19.1 in
    let s21 = kept core.objects S21 (first_found in_an_output in_a_case core) _ s20.1 in
    let s22 = kept core.objects S22 (first_found by_no_object repeats_label core) _ s21.1 in
    ((none_first (first_object by_no_object 0 core.objects) _ s16.0).1, (none_first (first_object by_no_object 0 core.objects) _ s22.0).1)

pub buildable : (core : Core) → IsSound core → first_broken core ≡ None → weight_of core ≤ most_weight → unbuilt core ≡ None → IsBuildable core
buildable core sound rules light built =
    let both = kept_rules core rules in
    record { sound = sound; light = light; loops = both.0; labels = both.1; built = built }
