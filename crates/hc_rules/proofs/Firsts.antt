-- What is found first in objects, and rules that no object or no statement breaks.
use Rattle.std.proofs.Common.{◌≡◌, ℕ, ◌+◌, ◌^◌, ◌<◌, ◌≤◌, List, [], ◌∷◌, length, Option, None, refl, sym, ap, ◌∙◌, arith}
use Rattle.std.specs.List.{sum_by}
use Rattle.std.proofs.lemmas.List.{length-map}
use Rattle.std.proofs.lemmas.List.Sums.{sum_by-cons}
use Rattle.hc_tree.specs.declared.place.Place.{Place}
use Rattle.hc_core.specs.Program.{Statement, Skip, Assign, Delay, Send, Receive, Prialt, PrialtElse, Seq, Par, If, While, DoWhile, Switch, Statements, stop, ◌⨾◌, Cases, no_case, send_case, receive_case, Arms, no_arm, arm}
use Rattle.hc_core.specs.Read.{statement}
use Rattle.hc_core.specs.Typed.{kinds_of}
use Rattle.hc_core.specs.Parts.{kind_parts}
use Rattle.hc_core.specs.Sound.{IsSound}
use Rattle.hc_core.specs.FirstPlace.{first_of, here_or, first_where, first_in, first_in_cases, first_in_arms, first_object, first_found}
use Rattle.hc_core.specs.Rules.{Found, by_no_object, by_no_statement, in_an_output}
use Rattle.hc_core.specs.declared.object.Kind.{Kind}
use Rattle.hc_core.specs.declared.object.Kind.TheVariants as kind
use Rattle.hc_core.specs.declared.object.Object.{Object}
use Rattle.hc_core.specs.declared.object.Core.{Core}
use Rattle.hc_rules.proofs.Places.{nothing_behind}

-- ---- how many objects

one_part : (kind : Kind) → 1 ≤ kind_parts kind
one_part (kind.Reg w s init) = omega arith
one_part (kind.Array w s n init) = omega arith
one_part (kind.Ram w s n init) = omega arith
one_part (kind.Rom w s n init) = omega arith
one_part (kind.Signal w s unset) = omega arith
one_part (kind.Chan w s queue) = omega arith
one_part (kind.Input w s pins) = omega arith
one_part (kind.Output w s pins value) = omega arith

each_a_part : (kinds : List Kind) → length kinds ≤ sum_by kind_parts kinds
each_a_part [] = omega arith
each_a_part (x ∷ rest) = let e = sum_by-cons kind_parts x rest in let h = each_a_part rest in let one = one_part x in omega arith

pub few_objects : (core : Core) → IsSound core → length core.objects < 2 ^ 32
few_objects core sound = let h = each_a_part (kinds_of core.objects) in let same : length (kinds_of core.objects) ≡ length core.objects = length-map core.objects (λ (o : Object). o.kind) in let f = sound.few in omega arith

-- ---- outputs

-- an output is found without its number
any_number : (j k : ℕ) (kind : Kind) → in_an_output j kind ≡ in_an_output k kind
any_number j k (kind.Reg w s init) = refl
any_number j k (kind.Array w s n init) = refl
any_number j k (kind.Ram w s n init) = refl
any_number j k (kind.Rom w s n init) = refl
any_number j k (kind.Signal w s unset) = refl
any_number j k (kind.Chan w s queue) = refl
any_number j k (kind.Input w s pins) = refl
any_number j k (kind.Output w s pins value) = refl

from_any : (j k : ℕ) (objects : List Object) → first_object in_an_output j objects ≡ first_object in_an_output k objects
from_any j k [] = refl
from_any j k (o ∷ rest) =
    ap (λ found. here_or o.place found (first_object in_an_output (j + 1) rest)) (any_number j k o.kind)
    ∙ ap (λ l. here_or o.place (in_an_output k o.kind) l) (from_any (j + 1) (k + 1) rest)

pub next_output : (rest behind : List Object) (first : Object) → rest ≡ first ∷ behind → None ≡ in_an_output 0 first.kind
    → first_object in_an_output 0 rest ≡ first_object in_an_output 0 behind
next_output rest behind first is none =
    ap (λ l. first_object in_an_output 0 l) is ∙ ap (λ found. here_or first.place found (first_object in_an_output 1 behind)) (sym none) ∙ from_any 1 0 behind

-- ---- rules that no object breaks, and one that no statement breaks

no_object : (k : ℕ) (objects : List Object) → first_object by_no_object k objects ≡ None
no_object k [] = refl
no_object k (o ∷ rest) = no_object (k + 1) rest

pub by_statements : (finds : Statement → Found) (core : Core) → first_found by_no_object finds core ≡ first_where finds (statement core.main)
by_statements finds core = ap (λ o. first_of o (first_where finds (statement core.main))) (no_object 0 core.objects)

first_none : (a b : Option (Place × Option ℕ)) → a ≡ None → b ≡ None → first_of a b ≡ None
first_none a b a_is b_is = ap (λ o. first_of o b) a_is ∙ b_is

mutual
  no_statement : (s : Statement) → first_where by_no_statement s ≡ None
  no_statement Skip = refl
  no_statement (Assign place t e) = refl
  no_statement (Delay place) = refl
  no_statement (Send place chan e) = refl
  no_statement (Receive place chan t) = refl
  no_statement (Prialt place cases) = no_case_of cases
  no_statement (PrialtElse place cases rest) = first_none _ _ (no_case_of cases) (no_statement rest)
  no_statement (Seq place parts) = none_of parts
  no_statement (Par place branches) = none_of branches
  no_statement (If place c a b) = first_none _ _ (no_statement a) (no_statement b)
  no_statement (While place c body) = no_statement body
  no_statement (DoWhile place body c) = no_statement body
  no_statement (Switch place e arms) = no_arm_of arms

  none_of : (parts : Statements) → first_in by_no_statement parts ≡ None
  none_of stop = refl
  none_of (first ⨾ rest) = first_none _ _ (no_statement first) (none_of rest)

  no_case_of : (cases : Cases) → first_in_cases by_no_statement cases ≡ None
  no_case_of no_case = refl
  no_case_of (send_case chan e first rest) = first_none _ _ (no_statement first) (no_case_of rest)
  no_case_of (receive_case chan t first rest) = first_none _ _ (no_statement first) (no_case_of rest)

  no_arm_of : (arms : Arms) → first_in_arms by_no_statement arms ≡ None
  no_arm_of no_arm = refl
  no_arm_of (arm values other body rest) = first_none _ _ (no_statement body) (no_arm_of rest)

pub by_objects : (finds : ℕ → Kind → Found) (core : Core) → first_found finds by_no_statement core ≡ first_object finds 0 core.objects
by_objects finds core = ap (λ o. first_of (first_object finds 0 core.objects) o) (no_statement (statement core.main)) ∙ nothing_behind (first_object finds 0 core.objects)
