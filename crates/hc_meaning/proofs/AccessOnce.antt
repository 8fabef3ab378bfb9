-- Where the rule isn't broken, each action and condition of what is left accesses a RAM or ROM at most once.
use Rattle.std.proofs.Common.{◌≡◌, ℕ, ◌+◌, ◌≤◌, ◌==◌, Bool, true, false, List, [], ◌∷◌, ◌++◌, length, Option, None, refl, sym, ap, ◌∙◌, arith, eqb-true}
use Rattle.std.specs.Prelude.{if◌then◌else◌}
use Rattle.hc_core.specs.Program as p
use Rattle.hc_core.specs.Program.{Expression}
use Rattle.hc_core.specs.Read.{statement}
use Rattle.hc_tree.specs.declared.place.Place.{Place}
use Rattle.hc_core.specs.Depends.{Access, accesses, target_accesses, case_accesses}
use Rattle.hc_core.specs.FirstPlace.{first_where, first_in, first_in_cases, first_in_arms, first_of, here_or, first_object}
use Rattle.hc_core.specs.declared.object.Core.{Core}
use Rattle.hc_meaning.specs.Residual.{residual, sequence, sequence_behind, branches_left, cases_left, arms_left, Residual, Then}
use Rattle.hc_meaning.specs.Uses.{indexes}
use Rattle.hc_meaning.proofs.Marks.{Mark, Tests, marks, all_marks, case_marks, arm_marks, mark_accesses, AccessOnce}
use Rattle.hc_core.specs.Rules.{is_in, repeated, accessed, least, by_object, by_no_object, accessed_twice}
use Rattle.hc_meaning.specs.Nets.{AccessesApart}
use Rattle.hc_meaning.proofs.Every.{Every, every_both, neither_left, neither_right}
use Rattle.hc_meaning.proofs.Loops.{here_clear, of_clear}
use Rattle.hc_meaning.proofs.Once.{every_member}

none_indexed : (k : ℕ) (list : List Access) → is_in k (accessed list) ≡ false → indexes k list ≡ []
none_indexed k [] h = refl
none_indexed k (b ∷ list) h =
    rw (neither_left (b.0 == k) (is_in k (accessed list)) h) (none_indexed k list (neither_right (b.0 == k) (is_in k (accessed list)) h))

at_most_one : (k : ℕ) (list : List Access) → repeated (accessed list) ≡ [] → length (indexes k list) ≤ 1
at_most_one k [] h = omega arith
at_most_one k (a ∷ list) h = by (is_in a.0 (accessed list)) refl h (at_most_one k list)
  where
    at : (t : Bool) → (a.0 == k) ≡ t → is_in a.0 (accessed list) ≡ false → length (indexes k list) ≤ 1 → length (if t then a.1 ∷ indexes k list else indexes k list) ≤ 1
    at false e f g = g
    at true e f g =
        let z : length (indexes k list) ≡ 0 = ap length (none_indexed k list (ap (λ n. is_in n (accessed list)) (sym (eqb-true a.0 k e)) ∙ f)) in
        omega arith

    by : (t : Bool) → is_in a.0 (accessed list) ≡ t → (if t then a.0 ∷ repeated (accessed list) else repeated (accessed list)) ≡ []
        → (repeated (accessed list) ≡ [] → length (indexes k list) ≤ 1) → length (if a.0 == k then a.1 ∷ indexes k list else indexes k list) ≤ 1
    by true f g next = absurd cc
    by false f g next = at (a.0 == k) refl f (next g)

no_repeats : (list : List Access) → by_object (least (repeated (accessed list))) ≡ None → repeated (accessed list) ≡ []
no_repeats list h = by (repeated (accessed list)) h
  where
    by : (xs : List ℕ) → by_object (least xs) ≡ None → xs ≡ []
    by [] g = refl
    by (x ∷ xs) g = absurd cc

-- what is found of an action or condition, and the rest
clear : (list : List Access) (place : Place) (o : Option (Place × Option ℕ)) → here_or place (by_object (least (repeated (accessed list)))) o ≡ None
    → (repeated (accessed list) ≡ []) × (o ≡ None)
clear list place o h = let f = here_clear place (by_object (least (repeated (accessed list)))) o h in (no_repeats list f.0, f.1)

abbrev Apart : ℕ × Mark → Type 0
Apart x = repeated (accessed (mark_accesses x.1)) ≡ []

abbrev All : List (ℕ × Mark) → Type 0
All list = Every Apart list

both : (a b : List (ℕ × Mark)) → All a → All b → All (a ++ b)
both a b h k = every_both Apart a b h k

mutual
  unfolding residual

  apart : (s : p.Statement) (n : ℕ) → first_where accessed_twice s ≡ None → All (marks (residual s n).0)
  apart p.Skip n h = tt
  apart (p.Assign place t e) n h = ((clear (target_accesses t ++ accesses e) place None h).0, tt)
  apart (p.Delay place) n h = (refl, tt)
  apart (p.Send place chan e) n h = ((clear (accesses e) place None h).0, tt)
  apart (p.Receive place chan t) n h = ((clear (target_accesses t) place None h).0, tt)
  apart (p.Prialt place cases) n h = cases_apart cases (n + 1) (clear (case_accesses cases) place (first_in_cases accessed_twice cases) h).1
  apart (p.PrialtElse place cases rest) n h =
      let g = of_clear (first_in_cases accessed_twice cases) (first_where accessed_twice rest) (clear (case_accesses cases) place (first_of (first_in_cases accessed_twice cases) (first_where accessed_twice rest)) h).1 in
      let k = (cases_left cases (n + 1)).1 in
      both (case_marks (cases_left cases (n + 1)).0) (marks (residual rest k).0) (cases_apart cases (n + 1) g.0) (apart rest k g.1)
  apart (p.Seq place parts) n h = sequence_apart parts n (here_clear place None (first_in accessed_twice parts) h).1
  apart (p.Par place bs) n h = all_apart bs n (here_clear place None (first_in accessed_twice bs) h).1
  apart (p.If place c a b) n h =
      let f = clear (accesses c) place (first_of (first_where accessed_twice a) (first_where accessed_twice b)) h in
      let g = of_clear (first_where accessed_twice a) (first_where accessed_twice b) f.1 in
      let k = (residual a (n + 1)).1 in
      (f.0, both (marks (residual a (n + 1)).0) (marks (residual b k).0) (apart a (n + 1) g.0) (apart b k g.1))
  apart (p.While place c body) n h =
      let f = clear (accesses c) place (first_where accessed_twice body) h in
      (f.0, apart body (n + 1) f.1)
  apart (p.DoWhile place body c) n h =
      let f = clear (accesses c) place (first_where accessed_twice body) h in
      both (marks (residual body n).0) (((residual body n).1, Tests c) ∷ []) (apart body n f.1) (f.0, tt)
  apart (p.Switch place e arms) n h =
      let f = clear (accesses e) place (first_in_arms accessed_twice arms) h in
      (f.0, arms_apart arms (n + 1) f.1)

  sequence_apart : (parts : p.Statements) (n : ℕ) → first_in accessed_twice parts ≡ None → All (marks (sequence parts n).0)
  sequence_apart p.stop n h = tt
  sequence_apart (p.◌⨾◌ one rest) n h =
      let g = of_clear (first_where accessed_twice one) (first_in accessed_twice rest) h in
      behind_apart (residual one n).0 rest (residual one n).1 (apart one n g.0) g.1

  behind_apart : (done : Residual) (rest : p.Statements) (n : ℕ) → All (marks done) → first_in accessed_twice rest ≡ None → All (marks (sequence_behind done rest n).0)
  behind_apart done p.stop n d h = d
  behind_apart done (p.◌⨾◌ next rest) n d h =
      let g = of_clear (first_where accessed_twice next) (first_in accessed_twice rest) h in
      behind_apart (Then done (residual next n).0) rest (residual next n).1 (both (marks done) (marks (residual next n).0) d (apart next n g.0)) g.1

  all_apart : (bs : p.Statements) (n : ℕ) → first_in accessed_twice bs ≡ None → All (all_marks (branches_left bs n).0)
  all_apart p.stop n h = tt
  all_apart (p.◌⨾◌ one rest) n h =
      let g = of_clear (first_where accessed_twice one) (first_in accessed_twice rest) h in
      let k = (residual one n).1 in
      both (marks (residual one n).0) (all_marks (branches_left rest k).0) (apart one n g.0) (all_apart rest k g.1)

  cases_apart : (cases : p.Cases) (n : ℕ) → first_in_cases accessed_twice cases ≡ None → All (case_marks (cases_left cases n).0)
  cases_apart p.no_case n h = tt
  cases_apart (p.send_case chan e one rest) n h =
      let g = of_clear (first_where accessed_twice one) (first_in_cases accessed_twice rest) h in
      let k = (residual one (n + 1)).1 in
      (refl, both (marks (residual one (n + 1)).0) (case_marks (cases_left rest k).0) (apart one (n + 1) g.0) (cases_apart rest k g.1))
  cases_apart (p.receive_case chan t one rest) n h =
      let g = of_clear (first_where accessed_twice one) (first_in_cases accessed_twice rest) h in
      let k = (residual one (n + 1)).1 in
      (refl, both (marks (residual one (n + 1)).0) (case_marks (cases_left rest k).0) (apart one (n + 1) g.0) (cases_apart rest k g.1))

  arms_apart : (arms : p.Arms) (n : ℕ) → first_in_arms accessed_twice arms ≡ None → All (arm_marks (arms_left arms n).0)
  arms_apart p.no_arm n h = tt
  arms_apart (p.arm values other body rest) n h =
      let g = of_clear (first_where accessed_twice body) (first_in_arms accessed_twice rest) h in
      let k = (residual body n).1 in
      both (marks (residual body n).0) (arm_marks (arms_left rest k).0) (apart body n g.0) (arms_apart rest k g.1)

pub access_once : (core : Core) → AccessesApart core → AccessOnce (residual (statement core.main) 0).0
access_once core h x m k =
    let g = (of_clear (first_object by_no_object 0 core.objects) (first_where accessed_twice (statement core.main)) h).1 in
    at_most_one k (mark_accesses x.1) (every_member Apart (marks (residual (statement core.main) 0).0) x (apart (statement core.main) 0 g) m)
