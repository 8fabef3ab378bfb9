-- Where S21 isn't broken, no case of what is left accesses a RAM or ROM, and no output reads one.
use Rattle.std.proofs.Common.{◌≡◌, ℕ, ◌+◌, List, [], ◌∷◌, ◌++◌, map, flat_map, Option, None, refl, ap}
use Rattle.hc_tree.specs.declared.place.Place.{Place}
use Rattle.hc_core.specs.Program as p
use Rattle.hc_core.specs.Program.{Expression}
use Rattle.hc_core.specs.Read.{expression, statement}
use Rattle.hc_core.specs.Depends.{Access, accesses, target_accesses, case_accesses}
use Rattle.hc_core.specs.FirstPlace.{first_where, first_in, first_in_cases, first_in_arms, first_of, first_object, here_or}
use Rattle.hc_core.specs.Rules.{accessed, least, by_object, in_an_output, in_a_case}
use Rattle.hc_core.specs.declared.object.Kind.{Kind}
use Rattle.hc_core.specs.declared.object.Kind.TheVariants as kind
use Rattle.hc_core.specs.declared.object.Object.{Object}
use Rattle.hc_core.specs.declared.object.Core.{Core}
use Rattle.hc_meaning.specs.Residual.{residual, sequence, sequence_behind, branches_left, cases_left, arms_left, Residual, Then}
use Rattle.hc_meaning.specs.Value.{World, number_of}
use Rattle.hc_meaning.specs.Clock.{output_of}
use Rattle.hc_meaning.specs.Nets.{OffersApart}
use Rattle.hc_meaning.proofs.Marks.{Mark, Tests, marks, all_marks, case_marks, arm_marks, reaches_no_word, OffersReadNothing}
use Rattle.hc_meaning.proofs.Every.{Every, every_both}
use Rattle.hc_meaning.proofs.Loops.{here_clear, of_clear}
use Rattle.hc_meaning.proofs.Once.{every_member}

none_first : (a b : List Access) → a ++ b ≡ [] → a ≡ []
none_first [] b h = refl
none_first (x ∷ a) b h = absurd cc

none_second : (a b : List Access) → a ++ b ≡ [] → b ≡ []
none_second [] b h = h
none_second (x ∷ a) b h = absurd cc

none_accessed : (list : List Access) → by_object (least (accessed list)) ≡ None → list ≡ []
none_accessed [] h = refl
none_accessed (x ∷ list) h = absurd cc

-- no access is found in cases, and nothing within
clear : (list : List Access) (place : Place) (o : Option (Place × Option ℕ)) → here_or place (by_object (least (accessed list))) o ≡ None → (list ≡ []) × (o ≡ None)
clear list place o h = let f = here_clear place (by_object (least (accessed list))) o h in (none_accessed list f.0, f.1)

abbrev Apart : ℕ × Mark → Type 0
Apart x = reaches_no_word x.1

abbrev All : List (ℕ × Mark) → Type 0
All list = Every Apart list

both : (a b : List (ℕ × Mark)) → All a → All b → All (a ++ b)
both a b h k = every_both Apart a b h k

mutual
  unfolding residual

  apart : (s : p.Statement) (n : ℕ) → first_where in_a_case s ≡ None → All (marks (residual s n).0)
  apart p.Skip n h = tt
  apart (p.Assign place t e) n h = (tt, tt)
  apart (p.Delay place) n h = (tt, tt)
  apart (p.Send place chan e) n h = (tt, tt)
  apart (p.Receive place chan t) n h = (tt, tt)
  apart (p.Prialt place cases) n h = let f = clear (case_accesses cases) place (first_in_cases in_a_case cases) h in cases_apart cases (n + 1) f.0 f.1
  apart (p.PrialtElse place cases rest) n h =
      let f = clear (case_accesses cases) place (first_of (first_in_cases in_a_case cases) (first_where in_a_case rest)) h in
      let g = of_clear (first_in_cases in_a_case cases) (first_where in_a_case rest) f.1 in
      let k = (cases_left cases (n + 1)).1 in
      both (case_marks (cases_left cases (n + 1)).0) (marks (residual rest k).0) (cases_apart cases (n + 1) f.0 g.0) (apart rest k g.1)
  apart (p.Seq place parts) n h = sequence_apart parts n (here_clear place None (first_in in_a_case parts) h).1
  apart (p.Par place bs) n h = all_apart bs n (here_clear place None (first_in in_a_case bs) h).1
  apart (p.If place c a b) n h =
      let f = here_clear place None (first_of (first_where in_a_case a) (first_where in_a_case b)) h in
      let g = of_clear (first_where in_a_case a) (first_where in_a_case b) f.1 in
      let k = (residual a (n + 1)).1 in
      (tt, both (marks (residual a (n + 1)).0) (marks (residual b k).0) (apart a (n + 1) g.0) (apart b k g.1))
  apart (p.While place c body) n h =
      let f = here_clear place None (first_where in_a_case body) h in
      (tt, apart body (n + 1) f.1)
  apart (p.DoWhile place body c) n h =
      let f = here_clear place None (first_where in_a_case body) h in
      both (marks (residual body n).0) (((residual body n).1, Tests c) ∷ []) (apart body n f.1) (tt, tt)
  apart (p.Switch place e arms) n h =
      let f = here_clear place None (first_in_arms in_a_case arms) h in
      (tt, arms_apart arms (n + 1) f.1)

  sequence_apart : (parts : p.Statements) (n : ℕ) → first_in in_a_case parts ≡ None → All (marks (sequence parts n).0)
  sequence_apart p.stop n h = tt
  sequence_apart (p.◌⨾◌ one rest) n h =
      let g = of_clear (first_where in_a_case one) (first_in in_a_case rest) h in
      behind_apart (residual one n).0 rest (residual one n).1 (apart one n g.0) g.1

  behind_apart : (done : Residual) (rest : p.Statements) (n : ℕ) → All (marks done) → first_in in_a_case rest ≡ None → All (marks (sequence_behind done rest n).0)
  behind_apart done p.stop n d h = d
  behind_apart done (p.◌⨾◌ next rest) n d h =
      let g = of_clear (first_where in_a_case next) (first_in in_a_case rest) h in
      behind_apart (Then done (residual next n).0) rest (residual next n).1 (both (marks done) (marks (residual next n).0) d (apart next n g.0)) g.1

  all_apart : (bs : p.Statements) (n : ℕ) → first_in in_a_case bs ≡ None → All (all_marks (branches_left bs n).0)
  all_apart p.stop n h = tt
  all_apart (p.◌⨾◌ one rest) n h =
      let g = of_clear (first_where in_a_case one) (first_in in_a_case rest) h in
      let k = (residual one n).1 in
      both (marks (residual one n).0) (all_marks (branches_left rest k).0) (apart one n g.0) (all_apart rest k g.1)

  cases_apart : (cases : p.Cases) (n : ℕ) → case_accesses cases ≡ [] → first_in_cases in_a_case cases ≡ None → All (case_marks (cases_left cases n).0)
  cases_apart p.no_case n e h = tt
  cases_apart (p.send_case chan e one rest) n a h =
      let g = of_clear (first_where in_a_case one) (first_in_cases in_a_case rest) h in
      let k = (residual one (n + 1)).1 in
      (none_first (accesses e) (case_accesses rest) a, both (marks (residual one (n + 1)).0) (case_marks (cases_left rest k).0) (apart one (n + 1) g.0) (cases_apart rest k (none_second (accesses e) (case_accesses rest) a) g.1))
  cases_apart (p.receive_case chan t one rest) n a h =
      let g = of_clear (first_where in_a_case one) (first_in_cases in_a_case rest) h in
      let k = (residual one (n + 1)).1 in
      (none_first (target_accesses t) (case_accesses rest) a, both (marks (residual one (n + 1)).0) (case_marks (cases_left rest k).0) (apart one (n + 1) g.0) (cases_apart rest k (none_second (target_accesses t) (case_accesses rest) a) g.1))

  arms_apart : (arms : p.Arms) (n : ℕ) → first_in_arms in_a_case arms ≡ None → All (arm_marks (arms_left arms n).0)
  arms_apart p.no_arm n h = tt
  arms_apart (p.arm values other body rest) n h =
      let g = of_clear (first_where in_a_case body) (first_in_arms in_a_case rest) h in
      let k = (residual body n).1 in
      both (marks (residual body n).0) (arm_marks (arms_left rest k).0) (apart body n g.0) (arms_apart rest k g.1)

pub read_nothing : (core : Core) → OffersApart core → OffersReadNothing (residual (statement core.main) 0).0
read_nothing core h x m =
    let g = (of_clear (first_object in_an_output 0 core.objects) (first_where in_a_case (statement core.main)) h).1 in
    every_member Apart (marks (residual (statement core.main) 0).0) x (apart (statement core.main) 0 g) m

-- ---- outputs

module _ (v w : World) (values : (e : Expression) → accesses e ≡ [] → number_of w e ≡ number_of v e) where
  output_same : (k : ℕ) (x : Kind) → in_an_output k x ≡ None → output_of w x ≡ output_of v x
  output_same k (kind.Output n s pins value) h = ap (λ e. e.bits ∷ []) (values (expression value) (none_accessed (accesses (expression value)) h))
  output_same k (kind.Reg n s init) h = refl
  output_same k (kind.Array n s m init) h = refl
  output_same k (kind.Ram n s m init) h = refl
  output_same k (kind.Rom n s m init) h = refl
  output_same k (kind.Signal n s unset) h = refl
  output_same k (kind.Chan n s queue) h = refl
  output_same k (kind.Input n s pins) h = refl

  outputs_from : (k : ℕ) (objects : List Object) → first_object in_an_output k objects ≡ None
      → flat_map (output_of w) (map (λ (o : Object). o.kind) objects) ≡ flat_map (output_of v) (map (λ (o : Object). o.kind) objects)
  outputs_from k [] h = refl
  outputs_from k (o ∷ rest) h =
      let f = here_clear o.place (in_an_output k o.kind) (first_object in_an_output (k + 1) rest) h in
      rw (output_same k o.kind f.0, outputs_from (k + 1) rest f.1) refl

  pub outputs_same : (core : Core) → OffersApart core → flat_map (output_of w) (map (λ (o : Object). o.kind) core.objects) ≡ flat_map (output_of v) (map (λ (o : Object). o.kind) core.objects)
  outputs_same core h = outputs_from 0 core.objects (of_clear (first_object in_an_output 0 core.objects) (first_where in_a_case (statement core.main)) h).0
