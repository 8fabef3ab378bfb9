-- The actions of a statement, in text order: those of a sequence are those of its parts, one after the other, and so on.
use Rattle.std.proofs.Common.{◌≡◌, ◌<◌, ◌≤◌, ℕ, zero, suc, ◌+◌, List, [], ◌∷◌, ◌++◌, map, length, get_or, take, None, Result, Ok, Err, OnOk, arith, sym, ap, ◌∙◌, subst, append_assoc, add-one}
use Rattle.std.proofs.lemmas.List.{append-nil}
use Rattle.hc_core.specs.FirstPlace.{first_of}
use Rattle.hc_core.specs.Read.{expression, statement, statements, arms}
use Rattle.hc_core.specs.Parts.{statement_parts, all_parts, arms_parts}
use Rattle.hc_core.specs.declared.expr.Expr.{Expr}
use Rattle.hc_core.specs.declared.stmt.Target.{Target}
use Rattle.hc_core.specs.declared.stmt.Stmt.{Stmt}
use Rattle.hc_core.specs.declared.stmt.Stmt.TheVariants as s
use Rattle.hc_core.specs.declared.stmt.Arm.{Arm}
use Rattle.hc_core.specs.declared.stmt.Case.TheBlock as sb
use Rattle.hc_core.proofs.Read.{read_Seq, read_Par, read_If, read_While, read_DoWhile, read_Switch}
use Rattle.hc_tree.specs.declared.place.Place.{Place}
use Rattle.hc_meaning.specs.Residual.{Action}
use Rattle.hc_control.specs.Built.{is_built_expression, unbuilt_statement, unbuilt_parts, unbuilt_arms}
use Rattle.hc_control.specs.Listing.{IsAction, Gathers, action_of, actions_in, actions_in_all, actions_in_arms}
use Rattle.hc_control.proofs.NoneFound.{none_first, none_within, not_none}

-- ---- the actions of each form

-- those of a sequence
pub actions_Seq : (x : Stmt) (place : Place) (parts : List Stmt) → x ≡ s.Seq place parts → actions_in (statement x) ≡ actions_in_all (statements parts)
actions_Seq x place parts is = ap (λ y. actions_in (statement y)) is ∙ ap actions_in (read_Seq place parts)

-- those of branches side by side
pub actions_Par : (x : Stmt) (place : Place) (branches : List Stmt) → x ≡ s.Par place branches → actions_in (statement x) ≡ actions_in_all (statements branches)
actions_Par x place branches is = ap (λ y. actions_in (statement y)) is ∙ ap actions_in (read_Par place branches)

-- those of two sides
pub actions_If : (x : Stmt) (place : Place) (c : Expr) (a b : Stmt) → x ≡ s.If place c a b → actions_in (statement x) ≡ actions_in (statement a) ++ actions_in (statement b)
actions_If x place c a b is = ap (λ y. actions_in (statement y)) is ∙ ap actions_in (read_If place c a b)

-- those of a loop
pub actions_While : (x : Stmt) (place : Place) (c : Expr) (body : Stmt) → x ≡ s.While place c body → actions_in (statement x) ≡ actions_in (statement body)
actions_While x place c body is = ap (λ y. actions_in (statement y)) is ∙ ap actions_in (read_While place c body)

pub actions_DoWhile : (x : Stmt) (place : Place) (body : Stmt) (c : Expr) → x ≡ s.DoWhile place body c → actions_in (statement x) ≡ actions_in (statement body)
actions_DoWhile x place body c is = ap (λ y. actions_in (statement y)) is ∙ ap actions_in (read_DoWhile place body c)

-- those of a `switch`
pub actions_Switch : (x : Stmt) (place : Place) (selector : Expr) (list : List Arm) → x ≡ s.Switch place selector list → actions_in (statement x) ≡ actions_in_arms (arms list)
actions_Switch x place selector list is = ap (λ y. actions_in (statement y)) is ∙ ap actions_in (read_Switch place selector list)

-- nothing is left of `Skip`
pub actions_Skip : (x : Stmt) → x ≡ s.Skip → actions_in (statement x) ≡ []
unfolding statement
actions_Skip x is = ap (λ y. actions_in (statement y)) is

-- an action is its own
pub actions_Assign : (x : Stmt) (place : Place) (to : Target) (v : Expr) → x ≡ s.Assign place to v → actions_in (statement x) ≡ action_of x ∷ []
unfolding statement
actions_Assign x place to v is = ap (λ y. actions_in (statement y)) is ∙ sym (ap (λ y. action_of y ∷ []) is)

pub actions_Delay : (x : Stmt) (place : Place) → x ≡ s.Delay place → actions_in (statement x) ≡ action_of x ∷ []
unfolding statement
actions_Delay x place is = ap (λ y. actions_in (statement y)) is ∙ sym (ap (λ y. action_of y ∷ []) is)

pub is_Assign : (x : Stmt) (place : Place) (to : Target) (v : Expr) → x ≡ s.Assign place to v → IsAction x
is_Assign x place to v is = subst (λ (y : Stmt). IsAction y) (sym is) tt

pub is_Delay : (x : Stmt) (place : Place) → x ≡ s.Delay place → IsAction x
is_Delay x place is = subst (λ (y : Stmt). IsAction y) (sym is) tt

-- ---- forms that are built, and their parts

pub built_Seq : (x : Stmt) (place : Place) (parts : List Stmt) → x ≡ s.Seq place parts → unbuilt_statement (statement x) ≡ None → unbuilt_parts (statements parts) ≡ None
built_Seq x place parts is h = subst (λ t. unbuilt_statement t ≡ None) (ap statement is ∙ read_Seq place parts) h

pub fewer_Seq : (x : Stmt) (place : Place) (parts : List Stmt) → x ≡ s.Seq place parts → all_parts (statements parts) < statement_parts (statement x)
fewer_Seq x place parts is =
    let e : statement_parts (statement x) ≡ 1 + all_parts (statements parts) = ap statement_parts (ap statement is ∙ read_Seq place parts) in
    omega arith

pub built_Par : (x : Stmt) (place : Place) (branches : List Stmt) → x ≡ s.Par place branches → unbuilt_statement (statement x) ≡ None → unbuilt_parts (statements branches) ≡ None
built_Par x place branches is h = subst (λ t. unbuilt_statement t ≡ None) (ap statement is ∙ read_Par place branches) h

pub fewer_Par : (x : Stmt) (place : Place) (branches : List Stmt) → x ≡ s.Par place branches → all_parts (statements branches) < statement_parts (statement x)
fewer_Par x place branches is =
    let e : statement_parts (statement x) ≡ 1 + all_parts (statements branches) = ap statement_parts (ap statement is ∙ read_Par place branches) in
    omega arith

pub built_If : (x : Stmt) (place : Place) (c : Expr) (a b : Stmt) → x ≡ s.If place c a b → unbuilt_statement (statement x) ≡ None
    → (unbuilt_statement (statement a) ≡ None) × (unbuilt_statement (statement b) ≡ None)
built_If x place c a b is h =
    none_first (unbuilt_statement (statement a)) (unbuilt_statement (statement b))
    (none_within (is_built_expression (expression c)) place (first_of (unbuilt_statement (statement a)) (unbuilt_statement (statement b)))
    (subst (λ t. unbuilt_statement t ≡ None) (ap statement is ∙ read_If place c a b) h))

pub fewer_If : (x : Stmt) (place : Place) (c : Expr) (a b : Stmt) → x ≡ s.If place c a b
    → (statement_parts (statement a) < statement_parts (statement x)) × (statement_parts (statement b) < statement_parts (statement x))
fewer_If x place c a b is =
    let e = ap statement_parts (ap statement is ∙ read_If place c a b) in
    (omega (arith, e), omega (arith, e))

pub built_While : (x : Stmt) (place : Place) (c : Expr) (body : Stmt) → x ≡ s.While place c body → unbuilt_statement (statement x) ≡ None → unbuilt_statement (statement body) ≡ None
built_While x place c body is h =
    none_within (is_built_expression (expression c)) place (unbuilt_statement (statement body)) (subst (λ t. unbuilt_statement t ≡ None) (ap statement is ∙ read_While place c body) h)

pub fewer_While : (x : Stmt) (place : Place) (c : Expr) (body : Stmt) → x ≡ s.While place c body → statement_parts (statement body) < statement_parts (statement x)
fewer_While x place c body is = let e = ap statement_parts (ap statement is ∙ read_While place c body) in omega (arith, e)

pub built_DoWhile : (x : Stmt) (place : Place) (body : Stmt) (c : Expr) → x ≡ s.DoWhile place body c → unbuilt_statement (statement x) ≡ None → unbuilt_statement (statement body) ≡ None
built_DoWhile x place body c is h =
    none_within (is_built_expression (expression c)) place (unbuilt_statement (statement body)) (subst (λ t. unbuilt_statement t ≡ None) (ap statement is ∙ read_DoWhile place body c) h)

pub fewer_DoWhile : (x : Stmt) (place : Place) (body : Stmt) (c : Expr) → x ≡ s.DoWhile place body c → statement_parts (statement body) < statement_parts (statement x)
fewer_DoWhile x place body c is = let e = ap statement_parts (ap statement is ∙ read_DoWhile place body c) in omega (arith, e)

pub built_Switch : (x : Stmt) (place : Place) (selector : Expr) (list : List Arm) → x ≡ s.Switch place selector list → unbuilt_statement (statement x) ≡ None → unbuilt_arms (arms list) ≡ None
built_Switch x place selector list is h =
    none_within (is_built_expression (expression selector)) place (unbuilt_arms (arms list)) (subst (λ t. unbuilt_statement t ≡ None) (ap statement is ∙ read_Switch place selector list) h)

pub fewer_Switch : (x : Stmt) (place : Place) (selector : Expr) (list : List Arm) → x ≡ s.Switch place selector list → arms_parts (arms list) < statement_parts (statement x)
fewer_Switch x place selector list is = let e = ap statement_parts (ap statement is ∙ read_Switch place selector list) in omega (arith, e)

-- a form without channels
abbrev pub IsQuiet : Stmt → Type 0
IsQuiet s.Skip = Unit {0}
IsQuiet (s.Assign place to v) = Unit {0}
IsQuiet (s.Delay place) = Unit {0}
IsQuiet (s.Seq' place m parts) = Unit {0}
IsQuiet (s.Par' place m branches) = Unit {0}
IsQuiet (s.If' place c m a n b) = Unit {0}
IsQuiet (s.While' place c m body) = Unit {0}
IsQuiet (s.DoWhile' place m body c) = Unit {0}
IsQuiet (s.Switch' place selector m list) = Unit {0}
IsQuiet _ = ⊥

quiet : (x : Stmt) → unbuilt_statement (statement x) ≡ None → IsQuiet x
unfolding statement
quiet s.Skip h = tt
quiet (s.Assign place to v) h = tt
quiet (s.Delay place) h = tt
quiet (s.Seq' place m parts) h = tt
quiet (s.Par' place m branches) h = tt
quiet (s.If' place c m a n b) h = tt
quiet (s.While' place c m body) h = tt
quiet (s.DoWhile' place m body c) h = tt
quiet (s.Switch' place selector m list) h = tt
quiet (s.Send place chan v) h = not_none _ h
quiet (s.Recv place chan to) h = not_none _ h
quiet (s.Prialt' place m cases sb.None') h = not_none _ h
quiet (s.Prialt' place m cases (sb.Some' p (sb.more_of-Stmt rest sb.end_of-Stmt))) h = not_none _ h

pub form_is : (x y : Stmt) → x ≡ y → unbuilt_statement (statement x) ≡ None → IsQuiet y
form_is x y is h = subst (λ (z : Stmt). IsQuiet z) is (quiet x h)

-- the parts of a list
pub part_built : (parts : List Stmt) (k : ℕ) (p : Stmt) → unbuilt_parts (statements parts) ≡ None → k < length parts → p ≡ get_or parts k p → unbuilt_statement (statement p) ≡ None
unfolding statements
part_built [] k p h inside is = absurd (omega arith)
part_built (first ∷ rest) zero p h inside is =
    subst (λ (x : Stmt). unbuilt_statement (statement x) ≡ None) (sym is) (none_first (unbuilt_statement (statement first)) (unbuilt_parts (statements rest)) h).0
part_built (first ∷ rest) (suc k) p h inside is =
    part_built rest k p (none_first (unbuilt_statement (statement first)) (unbuilt_parts (statements rest)) h).1 (omega arith) is

pub part_fewer : (parts : List Stmt) (k : ℕ) (p : Stmt) → k < length parts → p ≡ get_or parts k p → statement_parts (statement p) ≤ all_parts (statements parts)
unfolding statements
part_fewer [] k p inside is = absurd (omega arith)
part_fewer (first ∷ rest) zero p inside is = let e : statement_parts (statement p) ≡ statement_parts (statement first) = ap (λ (x : Stmt). statement_parts (statement x)) is in omega arith
part_fewer (first ∷ rest) (suc k) p inside is = let n = part_fewer rest k p (omega arith) is in omega arith

-- the arms of a list
pub arm_built : (list : List Arm) (k : ℕ) (a : Arm) → unbuilt_arms (arms list) ≡ None → k < length list → a ≡ get_or list k a → unbuilt_statement (statement a.body) ≡ None
unfolding arms
arm_built [] k a h inside is = absurd (omega arith)
arm_built (first ∷ rest) zero a h inside is =
    subst (λ (x : Arm). unbuilt_statement (statement x.body) ≡ None) (sym is) (none_first (unbuilt_statement (statement first.body)) (unbuilt_arms (arms rest)) h).0
arm_built (first ∷ rest) (suc k) a h inside is =
    arm_built rest k a (none_first (unbuilt_statement (statement first.body)) (unbuilt_arms (arms rest)) h).1 (omega arith) is

pub arm_fewer : (list : List Arm) (k : ℕ) (a : Arm) → k < length list → a ≡ get_or list k a → statement_parts (statement a.body) ≤ arms_parts (arms list)
unfolding arms
arm_fewer [] k a inside is = absurd (omega arith)
arm_fewer (first ∷ rest) zero a inside is =
    let e : statement_parts (statement a.body) ≡ statement_parts (statement first.body) = ap (λ (x : Arm). statement_parts (statement x.body)) is in omega arith
arm_fewer (first ∷ rest) (suc k) a inside is = let n = arm_fewer rest k a (omega arith) is in omega arith

-- ---- the list that is gathered

pub gathers_none : (list : List Stmt) → Gathers [] list list
gathers_none list = record { behind = sym (append-nil (map action_of list)); each = λ h. h }

gathers_more : (a b : List Action) (x y z : List Stmt) → Gathers a x y → Gathers b y z → Gathers (a ++ b) x z
gathers_more a b x y z first second = record {
  behind = second.behind ∙ ap (λ l. l ++ b) first.behind ∙ append_assoc (map action_of x) a b;
  each = λ h. second.each (first.each h);
}

-- the same for a call that goes on behind another one
pub gathers_then : {T E : Type 0} (r : Result T E) (a b : List Action) (x y z : List Stmt) → Gathers a x y → OnOk r (Gathers b y z) → OnOk r (Gathers (a ++ b) x z)
gathers_then (Ok v) a b x y z first second = gathers_more a b x y z first second
gathers_then (Err e) a b x y z first second = tt

-- the actions of one part more
all_more : (parts : List Stmt) (k : ℕ) (p : Stmt) → k < length parts → p ≡ get_or parts k p
    → actions_in_all (statements (take (suc k) parts)) ≡ actions_in_all (statements (take k parts)) ++ actions_in (statement p)
unfolding statements
all_more [] k p inside is = absurd (omega arith)
all_more (first ∷ rest) zero p inside is = ap (λ (x : Stmt). actions_in (statement x) ++ []) (sym is) ∙ append-nil (actions_in (statement p))
all_more (first ∷ rest) (suc k) p inside is =
    ap (λ l. actions_in (statement first) ++ l) (all_more rest k p (omega arith) is)
    ∙ sym (append_assoc (actions_in (statement first)) (actions_in_all (statements (take k rest))) (actions_in (statement p)))

pub gathers_part : (parts : List Stmt) (k : ℕ) (p : Stmt) (x y z : List Stmt) → k < length parts → p ≡ get_or parts k p
    → Gathers (actions_in_all (statements (take k parts))) x y → Gathers (actions_in (statement p)) y z
    → Gathers (actions_in_all (statements (take (k + 1) parts))) x z
gathers_part parts k p x y z inside is first second =
    let all : actions_in_all (statements (take (k + 1) parts)) ≡ actions_in_all (statements (take k parts)) ++ actions_in (statement p) =
    ap (λ n. actions_in_all (statements (take n parts))) (add-one k) ∙ all_more parts k p inside is in
    subst (λ l. Gathers l x z) (sym all) (gathers_more _ _ x y z first second)

pub gathers_nothing : (list : List Stmt) → Gathers (actions_in_all (statements [])) list list
unfolding statements
gathers_nothing list = gathers_none list

-- the actions of one arm more
arms_more : (list : List Arm) (k : ℕ) (a : Arm) → k < length list → a ≡ get_or list k a
    → actions_in_arms (arms (take (suc k) list)) ≡ actions_in_arms (arms (take k list)) ++ actions_in (statement a.body)
unfolding arms
arms_more [] k a inside is = absurd (omega arith)
arms_more (first ∷ rest) zero a inside is = ap (λ (x : Arm). actions_in (statement x.body) ++ []) (sym is) ∙ append-nil (actions_in (statement a.body))
arms_more (first ∷ rest) (suc k) a inside is =
    ap (λ l. actions_in (statement first.body) ++ l) (arms_more rest k a (omega arith) is)
    ∙ sym (append_assoc (actions_in (statement first.body)) (actions_in_arms (arms (take k rest))) (actions_in (statement a.body)))

pub gathers_arm : (list : List Arm) (k : ℕ) (a : Arm) (x y z : List Stmt) → k < length list → a ≡ get_or list k a
    → Gathers (actions_in_arms (arms (take k list))) x y → Gathers (actions_in (statement a.body)) y z
    → Gathers (actions_in_arms (arms (take (k + 1) list))) x z
gathers_arm list k a x y z inside is first second =
    let all : actions_in_arms (arms (take (k + 1) list)) ≡ actions_in_arms (arms (take k list)) ++ actions_in (statement a.body) =
    ap (λ n. actions_in_arms (arms (take n list))) (add-one k) ∙ arms_more list k a inside is in
    subst (λ l. Gathers l x z) (sym all) (gathers_more _ _ x y z first second)

pub gathers_no_arm : (list : List Stmt) → Gathers (actions_in_arms (arms [])) list list
unfolding arms
gathers_no_arm list = gathers_none list
