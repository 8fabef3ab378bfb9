-- The first rule that is broken, one rule after the other.
use Rattle.std.proofs.Common.{◌≡◌, ℕ, List, Option, Some, None, Result, Ok, Err, IfOk, IfErr, OnOk, refl, sym, ap, ◌∙◌, subst}
use Rattle.hc_tree.specs.declared.place.Place.{Place}
use Rattle.hc_tree.specs.declared.refusal.Rule.{Rule}
use Rattle.hc_tree.specs.declared.refusal.Rule.TheVariants.{S16, S18, S19, S20, S21, S22}
use Rattle.hc_tree.specs.declared.refusal.Refusal.{Refusal}
use Rattle.hc_core.specs.Read.{statement}
use Rattle.hc_core.specs.FirstPlace.{first_of, first_where, first_object}
use Rattle.hc_core.specs.Rules.{endless, both_cases, two_cases, accessed_twice, in_a_case, in_an_output, repeats_label, or_else, first_broken}
use Rattle.hc_core.specs.declared.object.Object.{Object}
use Rattle.hc_core.specs.declared.object.Core.{Core}
use Rattle.hc_tree.specs.declared.refusal.FrontErr.{FrontErr}
use Rattle.hc_tree.specs.declared.refusal.FrontErr.TheVariants.{Refused, NoMemory}
use Rattle.hc_rules.specs.Rules.{IfRefused, IsBroken}
use Rattle.hc_rules.proofs.Firsts.{by_statements, by_objects}

-- the rules, by what is found in objects or in statements alone
pub in_order : (core : Core) → first_broken core ≡
    or_else core.objects S16 (first_where endless (statement core.main))
    (or_else core.objects S18 (first_object (both_cases (statement core.main)) 0 core.objects)
    (or_else core.objects S19 (first_where two_cases (statement core.main))
    (or_else core.objects S20 (first_where accessed_twice (statement core.main))
    (or_else core.objects S21 (first_of (first_object in_an_output 0 core.objects) (first_where in_a_case (statement core.main)))
    (or_else core.objects S22 (first_where repeats_label (statement core.main))
    None)))))
unfolding first_broken
in_order core =
    rw (by_statements endless core) (rw (by_objects (both_cases (statement core.main)) core) (rw (by_statements two_cases core)
    (rw (by_statements accessed_twice core) (rw (by_statements repeats_label core) refl))))

module _ {E : Type 0} (first : Option Refusal) (objects : List Object) (rule : Rule) (found : Option (Place × Option ℕ)) (behind : Option Refusal) (looked : Result (Option (Place × Option ℕ)) E)
    (from : first ≡ or_else objects rule found behind) (looked_is : IfOk looked (λ f. f ≡ found)) where
  -- where the rule is kept, those behind it decide
  pub is_kept : looked ≡ Ok None → first ≡ behind
  is_kept none = from ∙ ap (λ f. or_else objects rule f behind) (sym (subst (λ l. IfOk l (λ f. f ≡ found)) none looked_is))

  stays : (f : Option (Place × Option ℕ)) (r : Refusal) → or_else objects rule f None ≡ Some r → or_else objects rule f behind ≡ Some r
  stays None r is = cc
  stays (Some f) r is = is

  -- where it is broken, it is the first
  pub is_broken : (r : Refusal) → IsBroken objects rule looked r → first ≡ Some r
  is_broken r broken =
      from ∙ ap (λ f. or_else objects rule f behind) (sym (subst (λ l. IfOk l (λ f. f ≡ found)) broken.found_is looked_is)) ∙ stays broken.found r broken.refusal_is

  -- the same of an error
  pub is_error : (e : FrontErr) → IfRefused e (λ r. IsBroken objects rule looked r) → IfRefused e (λ r. first ≡ Some r)
  is_error (Refused r) broken = is_broken r broken
  is_error NoMemory broken = broken

  pub is_answer : {X : Type 0} (answer : Result X FrontErr)
      → IfErr answer (λ e. IfRefused e (λ r. IsBroken objects rule looked r)) → IfErr answer (λ e. IfRefused e (λ r. first ≡ Some r))
  is_answer (Ok x) broken = broken
  is_answer (Err e) broken = is_error e broken

  pub is_answered : {X : Type 0} {F : Type 0} (answer : Result X F) → OnOk answer (looked ≡ Ok None) → IfOk answer (λ _. first ≡ behind)
  is_answered (Ok x) none = is_kept none
  is_answered (Err e) none = none
