-- The first form that isn't built, as the loops over lists find it: what was passed is built.
use Rattle.std.proofs.Common.{◌≡◌, ℕ, ◌+◌, ◌<◌, ◌≤◌, List, [], ◌∷◌, length, true, false, not, Option, Some, None, refl, sym, ap, ◌∙◌, subst, arith}
use Rattle.hc_tree.specs.declared.place.Place.{Place}
use Rattle.hc_core.specs.FirstPlace.{first_of, here_or, first_object}
use Rattle.hc_core.specs.Rules.{nameless}
use Rattle.hc_core.specs.Parts.{statement_parts, all_parts, arms_parts}
use Rattle.hc_core.specs.Program.{Statements, ◌⨾◌, Arms, arm}
use Rattle.hc_core.specs.Read.{statement, statements, arms}
use Rattle.hc_core.specs.declared.stmt.Arm.{Arm}
use Rattle.hc_core.specs.declared.stmt.Stmt.{Stmt}
use Rattle.hc_core.proofs.Listing.{is_empty, rest_is}
use Rattle.hc_core.proofs.Read.{read_no_statement, read_no_arm, read_arms}
use Rattle.hc_core.specs.declared.object.Object.{Object}
use Rattle.hc_control.specs.Built.{unbuilt_statement, unbuilt_parts, unbuilt_arms}
use Rattle.hc_build.specs.Built.{is_built_kind, unbuilt_kind, place_of}

-- ---- places

pub not_found : (found : Option (Place × Option ℕ)) → None ≡ place_of found → None ≡ found
not_found None h = refl
not_found (Some found) h = absurd (let no : None ≡ Some found.0 = h in cc)

-- the place of the first of two, where the first is found
pub place_first : (place : Place) (a b : Option (Place × Option ℕ)) → Some place ≡ place_of a → Some place ≡ place_of (first_of a b)
place_first place None b h = absurd (let no : Some place ≡ None = h in cc)
place_first place (Some found) b h = h

-- the place of the second, where the first isn't
pub place_second : (result : Option Place) (a b : Option (Place × Option ℕ)) → None ≡ place_of a → result ≡ place_of b → result ≡ place_of (first_of a b)
place_second result None b none h = h
place_second result (Some found) b none h = absurd (let no : None ≡ Some found.0 = none in cc)

-- the place of a statement that is found itself, and what is found within it where it isn't
pub place_here : (own : Option (Option ℕ)) (place found : Place) (within : Option (Place × Option ℕ)) → Some found ≡ place_of (here_or place own None) → Some found ≡ place_of (here_or place own within)
place_here None place found within h = absurd (let no : Some found ≡ None = h in cc)
place_here (Some named) place found within h = h

pub place_within : (result : Option Place) (own : Option (Option ℕ)) (place : Place) (within : Option (Place × Option ℕ)) → None ≡ place_of (here_or place own None) → result ≡ place_of within → result ≡ place_of (here_or place own within)
place_within result None place within none h = h
place_within result (Some named) place within none h = absurd (let no : None ≡ Some place = none in cc)

-- ---- objects

-- the number of an object is no matter
pub same_objects : (j k : ℕ) (objects : List Object) → first_object unbuilt_kind j objects ≡ first_object unbuilt_kind k objects
same_objects j k [] = refl
same_objects j k (o ∷ rest) = ap (here_or o.place (nameless (not (is_built_kind o.kind)))) (same_objects (j + 1) (k + 1) rest)

-- what was passed of a list is built
abbrev pub ObjectsLeft : List Object → List Object → Type 0
ObjectsLeft all rest = (k : ℕ) → first_object unbuilt_kind 0 all ≡ first_object unbuilt_kind k rest

module _ (all rest behind : List Object) (first : Object) (is : rest ≡ first ∷ behind) (left : ObjectsLeft all rest) where
  from_object : (k : ℕ) → first_object unbuilt_kind 0 all ≡ here_or first.place (nameless (not (is_built_kind first.kind))) (first_object unbuilt_kind (k + 1) behind)
  from_object k = left k ∙ ap (first_object unbuilt_kind k) is

  pub object_next : is_built_kind first.kind ≡ true → ObjectsLeft all behind
  object_next built k =
      from_object 0 ∙ ap (λ b. here_or first.place (nameless (not b)) (first_object unbuilt_kind 1 behind)) built ∙ same_objects 1 k behind

  pub object_found : is_built_kind first.kind ≡ false → Some first.place ≡ place_of (first_object unbuilt_kind 0 all)
  object_found unbuilt = sym (ap place_of (from_object 0 ∙ ap (λ b. here_or first.place (nameless (not b)) (first_object unbuilt_kind 1 behind)) unbuilt))

pub object_none : (all rest : List Object) → length rest < 1 → ObjectsLeft all rest → None ≡ place_of (first_object unbuilt_kind 0 all)
object_none all rest few left = sym (ap place_of (left 0 ∙ ap (first_object unbuilt_kind 0) (is_empty rest few)))

-- ---- lists

-- what is found first in a whole list is that of what is left of it, which has no more parts
pub record Left (whole left : Option (Place × Option ℕ)) (all rest : ℕ) : Type 0 where
  pub same : whole ≡ left
  pub fewer : rest ≤ all

next_by : (whole behind first : Option (Place × Option ℕ)) (all part rest : ℕ) → None ≡ first → Left whole (first_of first behind) all (part + rest) → Left whole behind all rest
next_by whole behind first all part rest none left = record {
  same = left.same ∙ ap (λ o. first_of o behind) (sym none);
  fewer = let f = left.fewer in omega arith;
}

-- ---- statements

abbrev pub IsLeft : Statements → Statements → Type 0
IsLeft all rest = Left (unbuilt_parts all) (unbuilt_parts rest) (all_parts all) (all_parts rest)

module _ (all : Statements) (rest behind : List Stmt) (first : Stmt) (is : rest ≡ first ∷ behind) (left : IsLeft all (statements rest)) where
  from_statement : IsLeft all (statement first ⨾ statements behind)
  from_statement = subst (λ r. IsLeft all r) (rest_is rest behind first is) left

  pub left_next : None ≡ place_of (unbuilt_statement (statement first)) → IsLeft all (statements behind)
  left_next none = next_by _ _ _ _ (statement_parts (statement first)) _ (not_found _ none) from_statement

  pub left_found : (place : Place) → Some place ≡ place_of (unbuilt_statement (statement first)) → Some place ≡ place_of (unbuilt_parts all)
  left_found place found = place_first place (unbuilt_statement (statement first)) _ found ∙ sym (ap place_of from_statement.same)

pub left_none : (all : Statements) (rest : List Stmt) → length rest < 1 → IsLeft all (statements rest) → None ≡ place_of (unbuilt_parts all)
left_none all rest few left = sym (ap place_of (left.same ∙ ap unbuilt_parts (ap statements (is_empty rest few) ∙ read_no_statement)))

-- ---- arms

abbrev pub ArmsLeft : Arms → Arms → Type 0
ArmsLeft all rest = Left (unbuilt_arms all) (unbuilt_arms rest) (arms_parts all) (arms_parts rest)

-- the arms of a rest that isn't empty
arms_are : (rest behind : List Arm) (first : Arm) → rest ≡ first ∷ behind → arms rest ≡ arm first.values first.other (statement first.body) (arms behind)
arms_are rest behind first is = ap arms is ∙ read_arms first behind

module _ (all : Arms) (rest behind : List Arm) (first : Arm) (is : rest ≡ first ∷ behind) (left : ArmsLeft all (arms rest)) where
  from_arm : ArmsLeft all (arm first.values first.other (statement first.body) (arms behind))
  from_arm = subst (λ r. ArmsLeft all r) (arms_are rest behind first is) left

  pub arms_next : None ≡ place_of (unbuilt_statement (statement first.body)) → ArmsLeft all (arms behind)
  arms_next none = next_by _ _ _ _ (1 + length first.values + statement_parts (statement first.body)) _ (not_found _ none) from_arm

  pub arms_found : (place : Place) → Some place ≡ place_of (unbuilt_statement (statement first.body)) → Some place ≡ place_of (unbuilt_arms all)
  arms_found place found = place_first place (unbuilt_statement (statement first.body)) _ found ∙ sym (ap place_of from_arm.same)

pub arms_none : (all : Arms) (rest : List Arm) → length rest < 1 → ArmsLeft all (arms rest) → None ≡ place_of (unbuilt_arms all)
arms_none all rest few left = sym (ap place_of (left.same ∙ ap unbuilt_arms (ap arms (is_empty rest few) ∙ read_no_arm)))
