-- Where S16 isn't broken, each loop of what is left has a body that takes a clock.
use Rattle.std.proofs.Common.{◌≡◌, ℕ, ◌+◌, Bool, true, false, Option, Some, None, refl, ◌∙◌}
use Rattle.hc_tree.specs.declared.place.Place.{Place}
use Rattle.hc_core.specs.Program as p
use Rattle.hc_core.specs.Zero as pz
use Rattle.hc_core.specs.Rules.{endless, nameless}
use Rattle.hc_core.specs.FirstPlace.{first_where, first_in, first_in_cases, first_in_arms, first_of, here_or}
use Rattle.hc_meaning.specs.Residual.{residual, sequence, sequence_behind, branches_left, cases_left, arms_left, Residual, Then}
use Rattle.hc_meaning.proofs.Sets.{Waits, AllWait, CasesWait, ArmsWait}
use Rattle.hc_meaning.proofs.Main.{zero_is}

pub here_clear : {A : Type 0} (place : Place) (f : Option A) (o : Option (Place × A)) → here_or place f o ≡ None → (f ≡ None) × (o ≡ None)
here_clear place (Some x) o h = absurd cc
here_clear place None o h = (refl, h)

pub of_clear : {A : Type 0} (a b : Option A) → first_of a b ≡ None → (a ≡ None) × (b ≡ None)
of_clear (Some x) b h = absurd cc
of_clear None b h = (refl, h)

loop_clear : (b : Bool) (place : Place) (o : Option (Place × Option ℕ)) → here_or place (nameless b) o ≡ None → (b ≡ false) × (o ≡ None)
loop_clear true place o h = absurd cc
loop_clear false place o h = (refl, h)

mutual
  unfolding residual

  pub waits_in : (s : p.Statement) (n : ℕ) → first_where endless s ≡ None → Waits (residual s n).0
  waits_in p.Skip n h = tt
  waits_in (p.Assign place t e) n h = tt
  waits_in (p.Delay place) n h = tt
  waits_in (p.Send place chan e) n h = tt
  waits_in (p.Receive place chan t) n h = tt
  waits_in (p.Prialt place cases) n h = cases_wait cases (n + 1) (here_clear place None (first_in_cases endless cases) h).1
  waits_in (p.PrialtElse place cases rest) n h =
      let g = of_clear (first_in_cases endless cases) (first_where endless rest) (here_clear place None (first_of (first_in_cases endless cases) (first_where endless rest)) h).1 in
      (cases_wait cases (n + 1) g.0, waits_in rest (cases_left cases (n + 1)).1 g.1)
  waits_in (p.Seq place parts) n h = sequence_waits parts n (here_clear place None (first_in endless parts) h).1
  waits_in (p.Par place bs) n h = all_wait bs n (here_clear place None (first_in endless bs) h).1
  waits_in (p.If place c a b) n h =
      let g = of_clear (first_where endless a) (first_where endless b) (here_clear place None (first_of (first_where endless a) (first_where endless b)) h).1 in
      (waits_in a (n + 1) g.0, waits_in b (residual a (n + 1)).1 g.1)
  waits_in (p.While place c body) n h =
      let g = loop_clear (pz.zero body) place (first_where endless body) h in
      (zero_is body (n + 1) ∙ g.0, waits_in body (n + 1) g.1)
  waits_in (p.DoWhile place body c) n h =
      let g = loop_clear (pz.zero body) place (first_where endless body) h in
      (zero_is body n ∙ g.0, waits_in body n g.1)
  waits_in (p.Switch place e arms) n h = arms_wait arms (n + 1) (here_clear place None (first_in_arms endless arms) h).1

  sequence_waits : (parts : p.Statements) (n : ℕ) → first_in endless parts ≡ None → Waits (sequence parts n).0
  sequence_waits p.stop n h = tt
  sequence_waits (p.◌⨾◌ one rest) n h =
      let g = of_clear (first_where endless one) (first_in endless rest) h in
      behind_waits (residual one n).0 rest (residual one n).1 (waits_in one n g.0) g.1

  behind_waits : (done : Residual) (rest : p.Statements) (n : ℕ) → Waits done → first_in endless rest ≡ None → Waits (sequence_behind done rest n).0
  behind_waits done p.stop n d h = d
  behind_waits done (p.◌⨾◌ next rest) n d h =
      let g = of_clear (first_where endless next) (first_in endless rest) h in
      behind_waits (Then done (residual next n).0) rest (residual next n).1 (d, waits_in next n g.0) g.1

  all_wait : (bs : p.Statements) (n : ℕ) → first_in endless bs ≡ None → AllWait (branches_left bs n).0
  all_wait p.stop n h = tt
  all_wait (p.◌⨾◌ one rest) n h =
      let g = of_clear (first_where endless one) (first_in endless rest) h in
      (waits_in one n g.0, all_wait rest (residual one n).1 g.1)

  cases_wait : (cases : p.Cases) (n : ℕ) → first_in_cases endless cases ≡ None → CasesWait (cases_left cases n).0
  cases_wait p.no_case n h = tt
  cases_wait (p.send_case chan e one rest) n h =
      let g = of_clear (first_where endless one) (first_in_cases endless rest) h in
      (waits_in one (n + 1) g.0, cases_wait rest (residual one (n + 1)).1 g.1)
  cases_wait (p.receive_case chan t one rest) n h =
      let g = of_clear (first_where endless one) (first_in_cases endless rest) h in
      (waits_in one (n + 1) g.0, cases_wait rest (residual one (n + 1)).1 g.1)

  arms_wait : (arms : p.Arms) (n : ℕ) → first_in_arms endless arms ≡ None → ArmsWait (arms_left arms n).0
  arms_wait p.no_arm n h = tt
  arms_wait (p.arm values other body rest) n h =
      let g = of_clear (first_where endless body) (first_in_arms endless rest) h in
      (waits_in body n g.0, arms_wait rest (residual body n).1 g.1)
