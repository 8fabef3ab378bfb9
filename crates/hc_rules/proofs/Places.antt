-- The first place, as the loops over lists find it: what was passed has none.
use Rattle.std.proofs.Common.{◌≡◌, ℕ, ◌+◌, ◌<◌, ◌≤◌, List, [], ◌∷◌, length, Option, Some, None, refl, sym, ap, ◌∙◌, subst, arith}
use Rattle.hc_tree.specs.declared.place.Place.{Place}
use Rattle.hc_core.specs.Program.{Statement, Skip, Assign, Delay, Send, Receive, Prialt, PrialtElse, Seq, Par, If, While, DoWhile, Switch, Statements, ◌⨾◌, Cases, Arms, arm}
use Rattle.hc_core.specs.Read.{statement, statements, cases, case_before, arms}
use Rattle.hc_core.specs.Parts.{statement_parts, all_parts, cases_parts, arms_parts}
use Rattle.hc_core.specs.declared.stmt.Stmt.{Stmt}
use Rattle.hc_core.specs.declared.stmt.Case.{Case}
use Rattle.hc_core.specs.declared.stmt.Case.TheVariants as c
use Rattle.hc_core.specs.declared.stmt.Arm.{Arm}
use Rattle.hc_core.proofs.Listing.{is_empty, rest_is}
use Rattle.hc_core.proofs.Read.{read_no_statement, read_no_case, read_no_arm, read_arms}
use Rattle.hc_core.specs.FirstPlace.{first_of, here_or, first_where, first_in, first_in_cases, first_in_arms}
use Rattle.hc_rules.specs.Walk.{here, within}

pub nothing_behind : {A : Type 0} (o : Option A) → first_of o None ≡ o
nothing_behind None = refl
nothing_behind (Some found) = refl

-- the first place of a whole list is that of what is left of it, which has no more parts
pub record Left {A : Type 0} (whole left : Option A) (all rest : ℕ) : Type 0 where
  pub same : whole ≡ left
  pub fewer : rest ≤ all

next_by : {A : Type 0} (whole behind first : Option A) (all part rest : ℕ) → None ≡ first → Left whole (first_of first behind) all (part + rest) → Left whole behind all rest
next_by whole behind first all part rest none left = record {
  same = left.same ∙ ap (λ o. first_of o behind) (sym none);
  fewer = let f = left.fewer in omega arith;
}

found_by : {A : Type 0} (whole behind first : Option A) (all rest : ℕ) (at : A) → Some at ≡ first → Left whole (first_of first behind) all rest → Some at ≡ whole
found_by whole behind first all rest at found left = sym (left.same ∙ ap (λ o. first_of o behind) (sym found))

-- ---- statements

abbrev pub StatementsLeft : {A : Type 0} → (Statement → Option A) → Statements → Statements → Type 0
StatementsLeft finds all rest = Left (first_in finds all) (first_in finds rest) (all_parts all) (all_parts rest)

module _ {A : Type 0} (finds : Statement → Option A) (all : Statements) (rest behind : List Stmt) (first : Stmt) (is : rest ≡ first ∷ behind) (left : StatementsLeft finds all (statements rest)) where
  from_statement : StatementsLeft finds all (statement first ⨾ statements behind)
  from_statement = subst (λ r. StatementsLeft finds all r) (rest_is rest behind first is) left

  pub statements_next : None ≡ first_where finds (statement first) → StatementsLeft finds all (statements behind)
  statements_next none = next_by _ _ _ _ (statement_parts (statement first)) _ none from_statement

pub statements_none : {A : Type 0} (finds : Statement → Option A) (all : Statements) (rest : List Stmt) → length rest < 1 → StatementsLeft finds all (statements rest) → None ≡ first_in finds all
statements_none finds all rest few left = sym (left.same ∙ ap (first_in finds) (ap statements (is_empty rest few) ∙ read_no_statement))

-- ---- cases

abbrev pub CasesLeft : {A : Type 0} → (Statement → Option A) → Cases → Cases → Type 0
CasesLeft finds all rest = Left (first_in_cases finds all) (first_in_cases finds rest) (cases_parts all) (cases_parts rest)

case_places : {A : Type 0} (finds : Statement → Option A) (first : Case) (behind : List Case)
    → first_in_cases finds (cases (first ∷ behind)) ≡ first_of (first_in_cases finds (cases (first ∷ []))) (first_in_cases finds (cases behind))
unfolding cases case_before
case_places finds (c.Send chan value body) behind = ap (λ o. first_of o (first_in_cases finds (cases behind))) (sym (nothing_behind (first_where finds (statement body))))
case_places finds (c.Recv chan to body) behind = ap (λ o. first_of o (first_in_cases finds (cases behind))) (sym (nothing_behind (first_where finds (statement body))))

case_parts : (first : Case) (behind : List Case) → cases_parts (cases (first ∷ behind)) ≡ cases_parts (cases (first ∷ [])) + cases_parts (cases behind)
unfolding cases case_before
case_parts (c.Send chan value body) behind = omega arith
case_parts (c.Recv chan to body) behind = omega arith

module _ {A : Type 0} (finds : Statement → Option A) (all : Cases) (rest behind : List Case) (first : Case) (is : rest ≡ first ∷ behind) (left : CasesLeft finds all (cases rest)) where
  from_case : Left (first_in_cases finds all) (first_of (first_in_cases finds (cases (first ∷ []))) (first_in_cases finds (cases behind)))
      (cases_parts all) (cases_parts (cases (first ∷ [])) + cases_parts (cases behind))
  from_case = record {
    same = left.same ∙ ap (λ l. first_in_cases finds (cases l)) is ∙ case_places finds first behind;
    fewer = let f = left.fewer in let e = ap (λ l. cases_parts (cases l)) is ∙ case_parts first behind in omega arith;
  }

  pub cases_next : None ≡ first_in_cases finds (cases (first ∷ [])) → CasesLeft finds all (cases behind)
  cases_next none = next_by _ _ _ _ (cases_parts (cases (first ∷ []))) _ none from_case

  pub cases_found : (at : Place × A) → Some at ≡ first_in_cases finds (cases (first ∷ [])) → Some at ≡ first_in_cases finds all
  cases_found at found = found_by _ _ _ _ _ at found from_case

  pub case_fewer : cases_parts (cases (first ∷ [])) ≤ cases_parts all
  case_fewer = let f = from_case.fewer in omega arith

pub cases_none : {A : Type 0} (finds : Statement → Option A) (all : Cases) (rest : List Case) → length rest < 1 → CasesLeft finds all (cases rest) → None ≡ first_in_cases finds all
cases_none finds all rest few left = sym (left.same ∙ ap (first_in_cases finds) (ap cases (is_empty rest few) ∙ read_no_case))

-- ---- arms

abbrev pub ArmsLeft : {A : Type 0} → (Statement → Option A) → Arms → Arms → Type 0
ArmsLeft finds all rest = Left (first_in_arms finds all) (first_in_arms finds rest) (arms_parts all) (arms_parts rest)

-- the arms of a rest that isn't empty
pub arms_are : (rest behind : List Arm) (first : Arm) → rest ≡ first ∷ behind → arms rest ≡ arm first.values first.other (statement first.body) (arms behind)
arms_are rest behind first is = ap arms is ∙ read_arms first behind

module _ {A : Type 0} (finds : Statement → Option A) (all : Arms) (rest behind : List Arm) (first : Arm) (is : rest ≡ first ∷ behind) (left : ArmsLeft finds all (arms rest)) where
  from_arm : ArmsLeft finds all (arm first.values first.other (statement first.body) (arms behind))
  from_arm = subst (λ r. ArmsLeft finds all r) (arms_are rest behind first is) left

  pub arms_next : None ≡ first_where finds (statement first.body) → ArmsLeft finds all (arms behind)
  arms_next none = next_by _ _ _ _ (1 + length first.values + statement_parts (statement first.body)) _ none from_arm

pub arms_none : {A : Type 0} (finds : Statement → Option A) (all : Arms) (rest : List Arm) → length rest < 1 → ArmsLeft finds all (arms rest) → None ≡ first_in_arms finds all
arms_none finds all rest few left = sym (left.same ∙ ap (first_in_arms finds) (ap arms (is_empty rest few) ∙ read_no_arm))

-- ---- a statement and what stands within it

split_at : {A : Type 0} (place : Place) (found : Option A) (behind : Option (Place × A)) → here_or place found behind ≡ first_of (here_or place found None) behind
split_at place None behind = refl
split_at place (Some found) behind = refl

pub here_then_within : {A : Type 0} (finds : Statement → Option A) (s : Statement) → first_where finds s ≡ first_of (here finds s) (within finds s)
here_then_within finds Skip = refl
here_then_within finds (Assign place t e) = split_at place (finds (Assign place t e)) None
here_then_within finds (Delay place) = split_at place (finds (Delay place)) None
here_then_within finds (Send place chan e) = split_at place (finds (Send place chan e)) None
here_then_within finds (Receive place chan t) = split_at place (finds (Receive place chan t)) None
here_then_within finds (Prialt place cases) = split_at place (finds (Prialt place cases)) (first_in_cases finds cases)
here_then_within finds (PrialtElse place cases rest) = split_at place (finds (PrialtElse place cases rest)) (first_of (first_in_cases finds cases) (first_where finds rest))
here_then_within finds (Seq place parts) = split_at place (finds (Seq place parts)) (first_in finds parts)
here_then_within finds (Par place branches) = split_at place (finds (Par place branches)) (first_in finds branches)
here_then_within finds (If place c a b) = split_at place (finds (If place c a b)) (first_of (first_where finds a) (first_where finds b))
here_then_within finds (While place c body) = split_at place (finds (While place c body)) (first_where finds body)
here_then_within finds (DoWhile place body c) = split_at place (finds (DoWhile place body c)) (first_where finds body)
here_then_within finds (Switch place e arms) = split_at place (finds (Switch place e arms)) (first_in_arms finds arms)
