-- What the loops of S16 keep: what was passed of a list and what is left of it make up the whole.
use Rattle.std.proofs.Common.{◌≡◌, ℕ, ◌<◌, ◌≤◌, Bool, true, false, ◌&&◌, ◌||◌, List, ◌∷◌, length, Option, Some, None, refl, sym, ap, ◌∙◌, subst, arith}
use Rattle.hc_tree.specs.declared.place.Place.{Place}
use Rattle.hc_core.specs.Program.{Statements, ◌⨾◌, Arms, arm}
use Rattle.hc_core.specs.Read.{statement, statements, arms}
use Rattle.hc_core.specs.Parts.{all_parts, arms_parts}
use Rattle.hc_core.specs.Zero.{zero, all_zero, some_zero, has_default}
use Rattle.hc_core.specs.declared.stmt.Stmt.{Stmt}
use Rattle.hc_core.specs.declared.stmt.Arm.{Arm}
use Rattle.hc_core.proofs.Listing.{is_empty, rest_is}
use Rattle.hc_core.proofs.Read.{read_no_statement, read_no_arm}
use Rattle.hc_core.specs.Rules.{endless as endless_loop}
use Rattle.hc_core.specs.FirstPlace.{first_of, first_where, first_in, first_in_arms}
use Rattle.hc_rules.proofs.Places.{nothing_behind, arms_are}

first_of_assoc : (a b d : Option (Place × Option ℕ)) → first_of a (first_of b d) ≡ first_of (first_of a b) d
first_of_assoc None b d = refl
first_of_assoc (Some found) b d = refl

and_assoc : (a b d : Bool) → (a && (b && d)) ≡ ((a && b) && d)
and_assoc true b d = refl
and_assoc false b d = refl

or_assoc : (a b d : Bool) → (a || (b || d)) ≡ ((a || b) || d)
or_assoc true b d = refl
or_assoc false b d = refl

and_true : (a : Bool) → (a && true) ≡ a
and_true true = refl
and_true false = refl

or_false : (a : Bool) → (a || false) ≡ a
or_false true = refl
or_false false = refl

-- ---- statements, of which each is done

pub record Passed (all rest : Statements) (none : Bool) (endless : Option (Place × Option ℕ)) : Type 0 where
  pub zero_is : all_zero all ≡ (none && all_zero rest)
  pub endless_is : first_in endless_loop all ≡ first_of endless (first_in endless_loop rest)
  pub fewer : all_parts rest ≤ all_parts all

pub passed_start : (all : Statements) (z : Bool) (e : Option (Place × Option ℕ)) → z ≡ true → e ≡ None → Passed all all z e
passed_start all z e z_is e_is = rw z_is (rw e_is (record { zero_is = refl; endless_is = refl; fewer = omega arith }))

module _ (all : Statements) (rest behind : List Stmt) (first : Stmt) (z : Bool) (e : Option (Place × Option ℕ)) (is : rest ≡ first ∷ behind) (now : Passed all (statements rest) z e) where
  from_statement : Passed all (statement first ⨾ statements behind) z e
  from_statement = subst (λ r. Passed all r z e) (rest_is rest behind first is) now

  pub passed_next : (nz z1 : Bool) (ne e1 : Option (Place × Option ℕ)) → nz ≡ zero (statement first) → ne ≡ first_where endless_loop (statement first) → z1 ≡ (z && nz) → e1 ≡ first_of e ne
      → Passed all (statements behind) z1 e1
  passed_next nz z1 ne e1 nz_is ne_is z1_is e1_is =
      let from = from_statement in
      rw z1_is (rw e1_is (rw nz_is (rw ne_is (record {
        zero_is = from.zero_is ∙ and_assoc z (zero (statement first)) (all_zero (statements behind));
        endless_is = from.endless_is ∙ first_of_assoc e (first_where endless_loop (statement first)) (first_in endless_loop (statements behind));
        fewer = let f = from.fewer in omega arith;
      }))))

pub passed_end : (all : Statements) (rest : List Stmt) (z : Bool) (e : Option (Place × Option ℕ)) → length rest < 1 → Passed all (statements rest) z e
    → (z ≡ all_zero all) × (e ≡ first_in endless_loop all)
passed_end all rest z e few now =
    let last = subst (λ r. Passed all r z e) (ap statements (is_empty rest few) ∙ read_no_statement) now in
    (sym (last.zero_is ∙ and_true z), sym (last.endless_is ∙ nothing_behind e))

-- ---- arms, of which one is taken

pub record ArmsPassed (all rest : Arms) (none : Bool) (endless : Option (Place × Option ℕ)) : Type 0 where
  pub zero_is : some_zero all ≡ (none || some_zero rest)
  pub endless_is : first_in_arms endless_loop all ≡ first_of endless (first_in_arms endless_loop rest)
  pub fewer : arms_parts rest ≤ arms_parts all

pub arms_start : (all : Arms) (z : Bool) (e : Option (Place × Option ℕ)) → z ≡ false → e ≡ None → ArmsPassed all all z e
arms_start all z e z_is e_is = rw z_is (rw e_is (record { zero_is = refl; endless_is = refl; fewer = omega arith }))

module _ (all : Arms) (rest behind : List Arm) (first : Arm) (z : Bool) (e : Option (Place × Option ℕ)) (is : rest ≡ first ∷ behind) (now : ArmsPassed all (arms rest) z e) where
  from_arm : ArmsPassed all (arm first.values first.other (statement first.body) (arms behind)) z e
  from_arm = subst (λ r. ArmsPassed all r z e) (arms_are rest behind first is) now

  pub arms_next : (nz z1 : Bool) (ne e1 : Option (Place × Option ℕ)) → nz ≡ zero (statement first.body) → ne ≡ first_where endless_loop (statement first.body) → z1 ≡ (z || nz) → e1 ≡ first_of e ne
      → ArmsPassed all (arms behind) z1 e1
  arms_next nz z1 ne e1 nz_is ne_is z1_is e1_is =
      let from = from_arm in
      rw z1_is (rw e1_is (rw nz_is (rw ne_is (record {
        zero_is = from.zero_is ∙ or_assoc z (zero (statement first.body)) (some_zero (arms behind));
        endless_is = from.endless_is ∙ first_of_assoc e (first_where endless_loop (statement first.body)) (first_in_arms endless_loop (arms behind));
        fewer = let f = from.fewer in omega arith;
      }))))

pub arms_end : (all : Arms) (rest : List Arm) (z : Bool) (e : Option (Place × Option ℕ)) → length rest < 1 → ArmsPassed all (arms rest) z e
    → (z ≡ some_zero all) × (e ≡ first_in_arms endless_loop all)
arms_end all rest z e few now =
    let last = subst (λ r. ArmsPassed all r z e) (ap arms (is_empty rest few) ∙ read_no_arm) now in
    (sym (last.zero_is ∙ or_false z), sym (last.endless_is ∙ nothing_behind e))

-- ---- the label `default`

module _ (rest behind : List Arm) (first : Arm) (is : rest ≡ first ∷ behind) where
  pub default_found : first.other ≡ true → has_default (arms rest) ≡ true
  default_found found = ap has_default (arms_are rest behind first is) ∙ ap (λ b. b || has_default (arms behind)) found

  pub default_next : first.other ≡ false → has_default (arms rest) ≡ has_default (arms behind)
  default_next none = ap has_default (arms_are rest behind first is) ∙ ap (λ b. b || has_default (arms behind)) none

pub default_none : (rest : List Arm) → length rest < 1 → has_default (arms rest) ≡ false
default_none rest few = ap has_default (ap arms (is_empty rest few) ∙ read_no_arm)
