-- Arms and cases, and what is made of several statements.
use Rattle.std.proofs.Common.{◌≡◌, ℕ, Bool, List, [], ◌∷◌, ◌++◌, Some, None, map, refl, ap, ◌∙◌}
use Rattle.hc_tree.specs.declared.place.Place.{Place}
use Rattle.hc_core.specs.Program as core
use Rattle.hc_core.specs.Program.{Expression, Seq}
use Rattle.hc_core.specs.Read.{expression, target, statement, statements, cases, case_before, arms}
use Rattle.hc_core.specs.Sound.{IsTyped, AllTyped, CasesTyped, ArmsTyped, IsTarget, IsKept, IsWidth}
use Rattle.hc_core.specs.Typed.{Typed, width_of, kinds_of}
use Rattle.hc_core.specs.declared.expr.Expr.{Expr}
use Rattle.hc_core.specs.declared.object.Kind.{Kind}
use Rattle.hc_core.specs.declared.object.Object.{Object}
use Rattle.hc_core.specs.declared.stmt.Arm.{Arm}
use Rattle.hc_core.specs.declared.stmt.Case.{Case}
use Rattle.hc_core.specs.declared.stmt.Case.TheVariants as c
use Rattle.hc_core.specs.declared.stmt.Stmt.{Stmt}
use Rattle.hc_core.specs.declared.stmt.Stmt.TheVariants as s
use Rattle.hc_core.specs.declared.stmt.Target.{Target}
use Rattle.hc_core.proofs.Read.{read_Prialt, read_PrialtElse, read_Switch, read_Seq, read_Par}
use Rattle.hc_width.specs.Operand as width
use Rattle.hc_expand.specs.Branches.{arm_read, IsArm, IsOffered, IsCase}
use Rattle.hc_expand.specs.Forms.{parts_read}
use Rattle.hc_scope.specs.Sound.{Grows}
use Rattle.hc_scope.specs.Statement.{in_order, cases_of, arms_of}
use Rattle.hc_evaluate.specs.Targets.{IsChannelOf}
use Rattle.hc_expand.specs.declared.cases.Offered.{Offered}
use Rattle.hc_expand.specs.declared.cases.Offered.TheVariants as o
use Rattle.hc_scope.proofs.Longer.{grown_typed}
use Rattle.hc_expand.proofs.Kept.{grown_cases, grown_arms, grown_sends, grown_receives}
use Rattle.hc_expand.proofs.Listed.{read_sequence}

-- ---- sequences and branches

pub sequence_typed : (kinds : List Kind) (place : Place) (parts : List Stmt) → AllTyped kinds (statements parts) → IsTyped kinds (statement (s.Seq place parts))
sequence_typed kinds place parts all = rw (read_Seq place parts) all

pub parallel_typed : (kinds : List Kind) (place : Place) (parts : List Stmt) → AllTyped kinds (statements parts) → IsTyped kinds (statement (s.Par place parts))
parallel_typed kinds place parts all = rw (read_Par place parts) all

-- ---- arms

arms_are : (all : List Arm) → arms all ≡ arms_of (map arm_read all)
unfolding arms
arms_are [] = refl
arms_are (first ∷ rest) = ap (λ l. core.arm first.values first.other (statement first.body) l) (arms_are rest)

pub read_switch : (place : Place) (selector : Expr) (all : List Arm) → statement (s.Switch place selector all) ≡ core.Switch place (expression selector) (arms_of (map arm_read all))
read_switch place selector all = read_Switch place selector all ∙ ap (λ l. core.Switch place (expression selector) l) (arms_are all)

arms_and_one : (kinds : List Kind) (w : ℕ) (signed : Bool) (done : List Arm) (x : Arm) → ArmsTyped kinds w signed (arms done) → IsArm kinds w signed x
    → ArmsTyped kinds w signed (arms (done ++ x ∷ []))
unfolding arms
arms_and_one kinds w signed [] x all is = (is.values, is.body, tt)
arms_and_one kinds w signed (first ∷ rest) x all is = (all.0, all.1, arms_and_one kinds w signed rest x all.2 is)

-- one more arm, over more objects
pub one_more_arm : (old new : List Object) (w : ℕ) (signed : Bool) (done all : List Arm) (x : Arm) → Grows old new → ArmsTyped (kinds_of old) w signed (arms done)
    → IsArm (kinds_of new) w signed x → all ≡ done ++ x ∷ [] → ArmsTyped (kinds_of new) w signed (arms all)
one_more_arm old new w signed done all x grows are is list = rw list (arms_and_one (kinds_of new) w signed done x (grown_arms old new w signed (arms done) grows are) is)

-- a selector with arms, over more objects than those that it was read over
pub switch_typed : (old new : List Object) (place : Place) (e : Expr) (w : ℕ) (signed : Bool) (all : List Arm) → Grows old new → Typed (kinds_of old) (expression e) w signed
    → ArmsTyped (kinds_of new) w signed (arms all) → IsTyped (kinds_of new) (statement (s.Switch place e all))
switch_typed old new place e w signed all grows typed arms_typed =
    rw (read_Switch place e all) (w, signed, grown_typed old new (expression e) w signed grows typed, arms_typed)

pub selector_width : (kinds : List Kind) (e : Expression) → width.IsTyped kinds e → IsWidth (width_of kinds e)
selector_width kinds e is = record { least = is.least; most = is.most }

pub no_arms : (kinds : List Kind) (w : ℕ) (signed : Bool) → ArmsTyped kinds w signed (arms [])
unfolding arms
no_arms kinds w signed = tt

-- ---- cases

pub no_cases : (kinds : List Kind) → CasesTyped kinds (cases [])
unfolding cases
no_cases kinds = tt

cases_are : (all : List Case) → cases all ≡ cases_of (map case_before all)
unfolding cases
cases_are [] = refl
cases_are (first ∷ rest) = ap (λ l. case_before first l) (cases_are rest)

pub read_prialt : (place : Place) (all : List Case) → statement (s.Prialt place all None) ≡ core.Prialt place (cases_of (map case_before all))
read_prialt place all = read_Prialt place all ∙ ap (λ l. core.Prialt place l) (cases_are all)

pub read_prialt_else : (place : Place) (all : List Case) (rest : Stmt) → statement (s.Prialt place all (Some rest)) ≡ core.PrialtElse place (cases_of (map case_before all)) (statement rest)
read_prialt_else place all rest = read_PrialtElse place all rest ∙ ap (λ l. core.PrialtElse place l (statement rest)) (cases_are all)

pub prialt_typed : (kinds : List Kind) (place : Place) (all : List Case) → CasesTyped kinds (cases all) → IsTyped kinds (statement (s.Prialt place all None))
prialt_typed kinds place all is = rw (read_Prialt place all) is

-- cases with a default, over more objects than those of the cases
pub prialt_else_typed : (old new : List Object) (place : Place) (all : List Case) (rest : Stmt) → Grows old new → CasesTyped (kinds_of old) (cases all)
    → IsTyped (kinds_of new) (statement rest) → IsTyped (kinds_of new) (statement (s.Prialt place all (Some rest)))
prialt_else_typed old new place all rest grows is other =
    rw (read_PrialtElse place all rest) (grown_cases old new (cases all) grows is, other)

case_and_more : (kinds : List Kind) (x : Case) (rest : core.Cases) → IsCase kinds x → CasesTyped kinds rest → CasesTyped kinds (case_before x rest)
unfolding case_before
case_and_more kinds (c.Send k e arm) rest is all = (is.0, is.1, all)
case_and_more kinds (c.Recv k to arm) rest is all = (is.0, is.1, all)

first_case : (kinds : List Kind) (x : Case) (rest : core.Cases) → CasesTyped kinds (case_before x rest) → IsCase kinds x × CasesTyped kinds rest
unfolding case_before
first_case kinds (c.Send k e arm) rest all = ((all.0, all.1), all.2)
first_case kinds (c.Recv k to arm) rest all = ((all.0, all.1), all.2)

cases_and_one : (kinds : List Kind) (done : List Case) (x : Case) → CasesTyped kinds (cases done) → IsCase kinds x → CasesTyped kinds (cases (done ++ x ∷ []))
unfolding cases
cases_and_one kinds [] x all is = case_and_more kinds x core.no_case is tt
cases_and_one kinds (first ∷ rest) x all is =
    let parts = first_case kinds first (cases rest) all in
    case_and_more kinds first (cases (rest ++ x ∷ [])) parts.0 (cases_and_one kinds rest x parts.1 is)

-- one more case, over more objects
pub one_more_case : (old new : List Object) (done all : List Case) (x : Case) → Grows old new → CasesTyped (kinds_of old) (cases done) → IsCase (kinds_of new) x
    → all ≡ done ++ x ∷ [] → CasesTyped (kinds_of new) (cases all)
one_more_case old new done all x grows are is list = rw list (cases_and_one (kinds_of new) done x (grown_cases old new (cases done) grows are) is)

pub read_send_case : (k : ℕ) (e : Expr) (place : Place) (parts : List Stmt)
    → case_before (c.Send k e (s.Seq place parts)) ≡ (λ rest. core.send_case k (expression e) (Seq place (in_order (parts_read parts))) rest)
unfolding case_before
read_send_case k e place parts = ap (λ t. λ rest. core.send_case k (expression e) t rest) (read_sequence place parts)

pub read_receive_case : (k : ℕ) (to : Target) (place : Place) (parts : List Stmt)
    → case_before (c.Recv k to (s.Seq place parts)) ≡ (λ rest. core.receive_case k (target to) (Seq place (in_order (parts_read parts))) rest)
unfolding case_before
read_receive_case k to place parts = ap (λ t. λ rest. core.receive_case k (target to) t rest) (read_sequence place parts)

-- ---- what a case waits for

pub sends_offered : (kinds : List Kind) (k w : ℕ) (signed : Bool) (e : Expr) → IsChannelOf kinds k w signed → Typed kinds (expression e) w signed → IsOffered kinds (o.Send k e)
sends_offered kinds k w signed e is typed = record { width = w; signed = signed; queue = is.0; chan_is = is.1; value = typed }

pub receives_offered : (kinds : List Kind) (k w : ℕ) (signed : Bool) (to : Target) → IsChannelOf kinds k w signed → IsKept (target to) → IsTarget kinds (target to) w signed
    → IsOffered kinds (o.Receive k to)
receives_offered kinds k w signed to is kept typed = record { width = w; signed = signed; queue = is.0; chan_is = is.1; kept = kept; target = typed }

pub grown_offer : (old new : List Object) (made : Offered) → Grows old new → IsOffered (kinds_of old) made → IsOffered (kinds_of new) made
grown_offer old new (o.Send k e) grows is = grown_sends old new k (expression e) grows is
grown_offer old new (o.Receive k to) grows is = grown_receives old new k (target to) grows is
