-- What the loops over lists keep: what is added up and what the rest of the list adds make up the whole.
use Rattle.std.proofs.Common.{◌≡◌, ℕ, ◌+◌, ◌-◌, ◌*◌, ◌^◌, ◌<◌, ◌≤◌, List, [], ◌∷◌, length, get_or, take, drop, refl, sym, ap, ◌∙◌, subst, arith}
use Rattle.std.proofs.lemmas.List.{take_all}
use Rattle.hc_core.specs.Program.{Statement, Statements, ◌⨾◌, Cases, Arms, arm}
use Rattle.hc_core.specs.Read.{expression, target, statement, statements, cases, arms}
use Rattle.hc_core.specs.Parts.{statement_parts, all_parts, cases_parts, arms_parts}
use Rattle.hc_core.specs.Weight.{statement_weight, list_weight, cases_weight, arms_weight, statement_flops, list_flops, cases_flops, arms_flops}
use Rattle.hc_core.specs.Weigh.{CanWeighStatement, CanWeighList, CanWeighCases, CanWeighArms}
use Rattle.hc_core.specs.declared.stmt.Stmt.{Stmt}
use Rattle.hc_core.specs.declared.stmt.Case.{Case}
use Rattle.hc_core.specs.declared.stmt.Case.TheVariants as c
use Rattle.hc_core.specs.declared.stmt.Arm.{Arm}
use Rattle.hc_core.specs.declared.object.Kind.{Kind}
use Rattle.hc_core.proofs.StatementBounds.{few_list_flops, few_case_flops, few_arm_flops}
use Rattle.hc_core.proofs.StatementOperands.{list_bound, cases_bound, arms_bound}
use Rattle.hc_core.proofs.Read.{read_statements, read_arms}

-- a list that isn't empty is its first item and the rest of it
pub uncons : {A : Type 0} (rest : List A) (first : A) → 1 ≤ length rest → first ≡ get_or rest 0 first → rest ≡ first ∷ take (length rest - 1) (drop 1 rest)
uncons [] first h e = absurd (omega arith)
uncons (x ∷ xs) first h e = ap (λ y. y ∷ xs) (sym e) ∙ ap (λ l. first ∷ l) (sym (take_all (length (x ∷ xs) - 1) xs (omega arith)))

pub is_empty : {A : Type 0} (rest : List A) → length rest < 1 → rest ≡ []
is_empty [] h = refl
is_empty (x ∷ xs) h = absurd (omega arith)

-- ---- statements

pub record Listed (kinds : List Kind) (each flop : ℕ) (all rest : Statements) (weight flops : ℕ) : Type 0 where
  pub can : CanWeighList kinds rest
  pub weight_is : weight + list_weight kinds each rest ≡ list_weight kinds each all
  pub flops_is : flops + list_flops flop rest ≡ list_flops flop all
  pub fewer : all_parts rest ≤ all_parts all
  pub light : list_weight kinds each all < 2 ^ 57
  pub few : list_flops flop all < 2 ^ 35

listed_first : (kinds : List Kind) (first : Statement) (behind : Statements) → CanWeighList kinds (first ⨾ behind) → CanWeighStatement kinds first
listed_first kinds first behind can = record { sound = can.sound; typed = can.typed.0; few = let f = can.few in omega arith }

listed_behind : (kinds : List Kind) (each flop : ℕ) (all : Statements) (first : Statement) (behind : Statements) (w f : ℕ)
    → Listed kinds each flop all (first ⨾ behind) w f → Listed kinds each flop all behind (w + (each + statement_weight kinds first)) (f + (flop + statement_flops first))
listed_behind kinds each flop all first behind w f h = record {
  can = record { sound = h.can.sound; typed = h.can.typed.1; few = let l = h.can.few in omega arith };
  weight_is = let e = h.weight_is in omega arith;
  flops_is = let e = h.flops_is in omega arith;
  fewer = let l = h.fewer in omega arith;
  light = h.light;
  few = h.few;
}

-- the statements of a rest that isn't empty
pub rest_is : (rest behind : List Stmt) (part : Stmt) → rest ≡ part ∷ behind → statements rest ≡ statement part ⨾ statements behind
rest_is rest behind part is = ap statements is ∙ read_statements part behind

pub part_can : (kinds : List Kind) (each flop : ℕ) (all : Statements) (rest behind : List Stmt) (part : Stmt) (w f : ℕ) → rest ≡ part ∷ behind
    → Listed kinds each flop all (statements rest) w f → CanWeighStatement kinds (statement part)
part_can kinds each flop all rest behind part w f is h =
    listed_first kinds (statement part) (statements behind) (subst (λ r. CanWeighList kinds r) (rest_is rest behind part is) h.can)

pub listed_next : (kinds : List Kind) (each flop : ℕ) (all : Statements) (rest behind : List Stmt) (part : Stmt) (w f nw nf : ℕ) → rest ≡ part ∷ behind
    → Listed kinds each flop all (statements rest) w f → nw ≡ statement_weight kinds (statement part) → nf ≡ statement_flops (statement part)
    → Listed kinds each flop all (statements behind) (w + (each + nw)) (f + (flop + nf))
listed_next kinds each flop all rest behind part w f nw nf is h weight flops =
    rw weight (rw flops (listed_behind kinds each flop all (statement part) (statements behind) w f
    (subst (λ r. Listed kinds each flop all r w f) (rest_is rest behind part is) h)))

-- before the loop
pub listed_start : (kinds : List Kind) (each flop : ℕ) (all : Statements) → each ≤ 64 → flop ≤ 1 → CanWeighList kinds all → Listed kinds each flop all all 0 0
listed_start kinds each flop all small one can = record {
  can = can;
  weight_is = omega arith;
  flops_is = omega arith;
  fewer = omega arith;
  light = list_bound kinds each all small can;
  few = let h = few_list_flops flop one all in let f = can.few in omega arith;
}

pub listed_end : (kinds : List Kind) (each flop : ℕ) (all : Statements) (rest : List Stmt) (w f : ℕ) → length rest < 1 → Listed kinds each flop all (statements rest) w f
    → (w ≡ list_weight kinds each all) × (f ≡ list_flops flop all)
unfolding statements
listed_end kinds each flop all rest w f h now =
    let last = subst (λ (l : List Stmt). Listed kinds each flop all (statements l) w f) (is_empty rest h) now in
    (let e = last.weight_is in omega arith, let e = last.flops_is in omega arith)

pub listed_fewer : (kinds : List Kind) (each flop : ℕ) (all : Statements) (rest behind : List Stmt) (part : Stmt) (w f : ℕ) → rest ≡ part ∷ behind
    → Listed kinds each flop all (statements rest) w f → statement_parts (statement part) ≤ all_parts all
listed_fewer kinds each flop all rest behind part w f is h =
    let moved = subst (λ r. Listed kinds each flop all r w f) (rest_is rest behind part is) h in
    let l = moved.fewer in
    omega arith

-- ---- cases

pub record CasesListed (kinds : List Kind) (all rest : Cases) (weight flops : ℕ) : Type 0 where
  pub can : CanWeighCases kinds rest
  pub weight_is : weight + cases_weight kinds rest ≡ cases_weight kinds all
  pub flops_is : flops + cases_flops rest ≡ cases_flops all
  pub fewer : cases_parts rest ≤ cases_parts all
  pub light : cases_weight kinds all < 2 ^ 57
  pub few : cases_flops all < 2 ^ 35

pub cases_start : (kinds : List Kind) (all : Cases) → CanWeighCases kinds all → CasesListed kinds all all 0 0
cases_start kinds all can = record {
  can = can;
  weight_is = omega arith;
  flops_is = omega arith;
  fewer = omega arith;
  light = cases_bound kinds all can;
  few = let h = few_case_flops all in let f = can.few in omega arith;
}

-- one case alone, and what it leaves
record Split (kinds : List Kind) (first rest behind : Cases) : Type 0 where
  can : CanWeighCases kinds rest → CanWeighCases kinds first × CanWeighCases kinds behind
  weight : cases_weight kinds rest ≡ cases_weight kinds first + cases_weight kinds behind
  flops : cases_flops rest ≡ cases_flops first + cases_flops behind
  parts : cases_parts rest ≡ cases_parts first + cases_parts behind

split_case : (kinds : List Kind) (first : Case) (behind : List Case) → Split kinds (cases (first ∷ [])) (cases (first ∷ behind)) (cases behind)
unfolding cases Rattle.hc_core.specs.Read.case_before
split_case kinds (c.Send chan value body) behind = record {
  can = λ h. (
    record { sound = h.sound; typed = (h.typed.0, h.typed.1, tt); few = let f = h.few in omega arith },
    record { sound = h.sound; typed = h.typed.2; few = let f = h.few in omega arith },
  );
  weight = omega arith;
  flops = omega arith;
  parts = omega arith;
}
split_case kinds (c.Recv chan to body) behind = record {
  can = λ h. (
    record { sound = h.sound; typed = (h.typed.0, h.typed.1, tt); few = let f = h.few in omega arith },
    record { sound = h.sound; typed = h.typed.2; few = let f = h.few in omega arith },
  );
  weight = omega arith;
  flops = omega arith;
  parts = omega arith;
}

pub case_can : (kinds : List Kind) (all : Cases) (rest behind : List Case) (first : Case) (w f : ℕ) → rest ≡ first ∷ behind
    → CasesListed kinds all (cases rest) w f → CanWeighCases kinds (cases (first ∷ []))
case_can kinds all rest behind first w f is h =
    ((split_case kinds first behind).can (subst (λ r. CanWeighCases kinds r) (ap cases is) h.can)).0

pub cases_next : (kinds : List Kind) (all : Cases) (rest behind : List Case) (first : Case) (w f nw nf : ℕ) → rest ≡ first ∷ behind
    → CasesListed kinds all (cases rest) w f → nw ≡ cases_weight kinds (cases (first ∷ [])) → nf ≡ cases_flops (cases (first ∷ []))
    → CasesListed kinds all (cases behind) (w + nw) (f + nf)
cases_next kinds all rest behind first w f nw nf is h weight flops =
    let moved = subst (λ (l : List Case). CasesListed kinds all (cases l) w f) is h in
    let split = split_case kinds first behind in
    let a = split.weight in
    let b = split.flops in
    let d = split.parts in
    record {
      can = (split.can moved.can).1;
      weight_is = let e = moved.weight_is in omega arith;
      flops_is = let e = moved.flops_is in omega arith;
      fewer = let l = moved.fewer in omega arith;
      light = moved.light;
      few = moved.few;
    }

pub cases_end : (kinds : List Kind) (all : Cases) (rest : List Case) (w f : ℕ) → length rest < 1 → CasesListed kinds all (cases rest) w f
    → (w ≡ cases_weight kinds all) × (f ≡ cases_flops all)
unfolding cases
cases_end kinds all rest w f h now =
    let last = subst (λ (l : List Case). CasesListed kinds all (cases l) w f) (is_empty rest h) now in
    (let e = last.weight_is in omega arith, let e = last.flops_is in omega arith)

pub cases_fewer : (kinds : List Kind) (all : Cases) (rest behind : List Case) (first : Case) (w f : ℕ) → rest ≡ first ∷ behind
    → CasesListed kinds all (cases rest) w f → cases_parts (cases (first ∷ [])) ≤ cases_parts all
cases_fewer kinds all rest behind first w f is h =
    let moved = subst (λ (l : List Case). CasesListed kinds all (cases l) w f) is h in
    let l = moved.fewer in
    let d = (split_case kinds first behind).parts in
    omega arith

-- ---- arms

pub record ArmsListed (kinds : List Kind) (each : ℕ) (all rest : Arms) (weight flops : ℕ) : Type 0 where
  pub can : CanWeighArms kinds rest
  pub weight_is : weight + arms_weight kinds each rest ≡ arms_weight kinds each all
  pub flops_is : flops + arms_flops rest ≡ arms_flops all
  pub fewer : arms_parts rest ≤ arms_parts all
  pub light : arms_weight kinds each all < 2 ^ 57
  pub few : arms_flops all < 2 ^ 35

pub arms_start : (kinds : List Kind) (each : ℕ) (all : Arms) → each ≤ 264 → CanWeighArms kinds all → ArmsListed kinds each all all 0 0
arms_start kinds each all small can = record {
  can = can;
  weight_is = omega arith;
  flops_is = omega arith;
  fewer = omega arith;
  light = arms_bound kinds each all small can;
  few = let h = few_arm_flops all in let f = can.few in omega arith;
}

arms_rest_is : (rest behind : List Arm) (first : Arm) → rest ≡ first ∷ behind → arms rest ≡ arm first.values first.other (statement first.body) (arms behind)
arms_rest_is rest behind first is = ap arms is ∙ read_arms first behind

pub arm_can : (kinds : List Kind) (each : ℕ) (all : Arms) (rest behind : List Arm) (first : Arm) (w f : ℕ) → rest ≡ first ∷ behind
    → ArmsListed kinds each all (arms rest) w f → CanWeighStatement kinds (statement first.body)
arm_can kinds each all rest behind first w f is h =
    let moved = subst (λ r. CanWeighArms kinds r) (arms_rest_is rest behind first is) h.can in
    record { sound = moved.sound; typed = moved.typed.1; few = let l = moved.few in omega arith }

pub arms_next : (kinds : List Kind) (each : ℕ) (all : Arms) (rest behind : List Arm) (first : Arm) (w f labels nw nf : ℕ) → rest ≡ first ∷ behind
    → ArmsListed kinds each all (arms rest) w f → labels ≡ each * length first.values → nw ≡ statement_weight kinds (statement first.body) → nf ≡ statement_flops (statement first.body)
    → ArmsListed kinds each all (arms behind) (w + (labels + 16 + nw)) (f + nf)
arms_next kinds each all rest behind first w f labels nw nf is h own weight flops =
    let moved = subst (λ r. ArmsListed kinds each all r w f) (arms_rest_is rest behind first is) h in
    record {
      can = record { sound = moved.can.sound; width = moved.can.width; signed = moved.can.signed; typed = moved.can.typed.2; few = let l = moved.can.few in omega arith };
      weight_is = let e = moved.weight_is in omega arith;
      flops_is = let e = moved.flops_is in omega arith;
      fewer = let l = moved.fewer in omega arith;
      light = moved.light;
      few = moved.few;
    }

pub arms_end : (kinds : List Kind) (each : ℕ) (all : Arms) (rest : List Arm) (w f : ℕ) → length rest < 1 → ArmsListed kinds each all (arms rest) w f
    → (w ≡ arms_weight kinds each all) × (f ≡ arms_flops all)
unfolding arms
arms_end kinds each all rest w f h now =
    let last = subst (λ (l : List Arm). ArmsListed kinds each all (arms l) w f) (is_empty rest h) now in
    (let e = last.weight_is in omega arith, let e = last.flops_is in omega arith)

pub arms_fewer : (kinds : List Kind) (each : ℕ) (all : Arms) (rest behind : List Arm) (first : Arm) (w f : ℕ) → rest ≡ first ∷ behind
    → ArmsListed kinds each all (arms rest) w f → statement_parts (statement first.body) ≤ arms_parts all
arms_fewer kinds each all rest behind first w f is h =
    let moved = subst (λ r. ArmsListed kinds each all r w f) (arms_rest_is rest behind first is) h in
    let l = moved.fewer in
    omega arith
