-- What can be weighed has parts that can be, and each weight is below 2^58.
use Rattle.std.proofs.Common.{◌≡◌, ℕ, ◌^◌, ◌<◌, ◌≤◌, List, Bool, ap, ◌∙◌, subst, arith}
use Rattle.hc_core.specs.Program.{Expression, Target, ToElement, ToWord, Statement, Statements, Cases, Arms}
use Rattle.hc_core.specs.Read.{expression, target}
use Rattle.std.specs.Prelude.{slice_get}
use Rattle.hc_core.specs.Typed.{HasSomeType, kind_width}
use Rattle.hc_core.specs.Sound.{IsTarget}
use Rattle.hc_core.proofs.Bounds.{array_at, ram_at}
use Rattle.hc_core.specs.Weight.{target_weight, statement_weight, list_weight, cases_weight, arms_weight, statement_flops}
use Rattle.hc_core.specs.Weigh.{AreSound, CanWeigh, CanWeighTarget, CanWeighStatement, CanWeighList, CanWeighCases, CanWeighArms}
use Rattle.hc_core.specs.declared.expr.Expr.{Expr}
use Rattle.hc_core.specs.declared.stmt.Target as dt
use Rattle.hc_core.specs.declared.stmt.Target.TheVariants as t
use Rattle.hc_core.specs.declared.object.Kind.{Kind}
use Rattle.hc_core.proofs.StatementBounds.{target_light, statement_light, list_light, cases_light, arms_light, few_flops}
use Rattle.hc_core.proofs.Read.{read_to_Element, read_to_Word}

pub target_bound : (kinds : List Kind) (x : Target) → CanWeighTarget kinds x → target_weight kinds x < 2 ^ 57
target_bound kinds x can =
    let h = target_light kinds can.sound x _ _ can.typed in
    let f = can.few in
    omega arith

pub statement_bound : (kinds : List Kind) (x : Statement) → CanWeighStatement kinds x → statement_weight kinds x < 2 ^ 57
statement_bound kinds x can =
    let h = statement_light kinds can.sound x can.typed in
    let f = can.few in
    omega arith

pub list_bound : (kinds : List Kind) (each : ℕ) (x : Statements) → each ≤ 64 → CanWeighList kinds x → list_weight kinds each x < 2 ^ 57
list_bound kinds each x small can =
    let h = list_light kinds can.sound each small x can.typed in
    let f = can.few in
    omega arith

pub cases_bound : (kinds : List Kind) (x : Cases) → CanWeighCases kinds x → cases_weight kinds x < 2 ^ 57
cases_bound kinds x can =
    let h = cases_light kinds can.sound x can.typed in
    let f = can.few in
    omega arith

pub arms_bound : (kinds : List Kind) (each : ℕ) (x : Arms) → each ≤ 264 → CanWeighArms kinds x → arms_weight kinds each x < 2 ^ 57
arms_bound kinds each x small can =
    let h = arms_light kinds can.sound can.width can.signed each small x can.typed in
    let f = can.few in
    omega arith

pub flops_bound : (kinds : List Kind) (x : Statement) → CanWeighStatement kinds x → statement_flops x < 2 ^ 34
flops_bound kinds x can = let h = few_flops x in let f = can.few in omega arith

-- ---- targets

as_target : (kinds : List Kind) (x : dt.Target) (y : Target) → target x ≡ y → CanWeighTarget kinds (target x) → CanWeighTarget kinds y
as_target kinds x y is can = subst (λ z. CanWeighTarget kinds z) is can

element_width : (kinds : List Kind) (k w : ℕ) (s : Bool) (i : Expression) → AreSound kinds → IsTarget kinds (ToElement k i) w s → kind_width (slice_get kinds k) ≤ 128
element_width kinds k w s i sound (n, init, is, t) = let h = (array_at kinds sound k w n s init is).width.most in rw is h

word_width : (kinds : List Kind) (k w : ℕ) (s : Bool) (i : Expression) → AreSound kinds → IsTarget kinds (ToWord k i) w s → kind_width (slice_get kinds k) ≤ 128
word_width kinds k w s i sound (n, init, is, t) = let h = (ram_at kinds sound k w n s init is).width.most in rw is h

pub to_element_width : (kinds : List Kind) (x : dt.Target) (k : ℕ) (i : Expr) → x ≡ t.Element k i → CanWeighTarget kinds (target x) → kind_width (slice_get kinds k) ≤ 128
to_element_width kinds x k i is can =
    let c = as_target kinds x _ (ap target is ∙ read_to_Element k i) can in
    element_width kinds k c.width c.signed (expression i) c.sound c.typed

pub to_word_width : (kinds : List Kind) (x : dt.Target) (k : ℕ) (i : Expr) → x ≡ t.Word k i → CanWeighTarget kinds (target x) → kind_width (slice_get kinds k) ≤ 128
to_word_width kinds x k i is can =
    let c = as_target kinds x _ (ap target is ∙ read_to_Word k i) can in
    word_width kinds k c.width c.signed (expression i) c.sound c.typed

element_index_typed : (kinds : List Kind) (k w : ℕ) (s : Bool) (i : Expression) → IsTarget kinds (ToElement k i) w s → HasSomeType kinds i
element_index_typed kinds k w s i (n, init, is, t) = (_, _, t)

word_index_typed : (kinds : List Kind) (k w : ℕ) (s : Bool) (i : Expression) → IsTarget kinds (ToWord k i) w s → HasSomeType kinds i
word_index_typed kinds k w s i (n, init, is, t) = (_, _, t)

pub to_element_index : (kinds : List Kind) (x : dt.Target) (k : ℕ) (i : Expr) → x ≡ t.Element k i → CanWeighTarget kinds (target x) → CanWeigh kinds (expression i)
to_element_index kinds x k i is can =
    let c = as_target kinds x _ (ap target is ∙ read_to_Element k i) can in
    record { sound = c.sound; typed = element_index_typed kinds k c.width c.signed (expression i) c.typed; few = let f = c.few in omega arith }

pub to_word_index : (kinds : List Kind) (x : dt.Target) (k : ℕ) (i : Expr) → x ≡ t.Word k i → CanWeighTarget kinds (target x) → CanWeigh kinds (expression i)
to_word_index kinds x k i is can =
    let c = as_target kinds x _ (ap target is ∙ read_to_Word k i) can in
    record { sound = c.sound; typed = word_index_typed kinds k c.width c.signed (expression i) c.typed; few = let f = c.few in omega arith }

pub ruleset weighing = (target_bound, statement_bound, list_bound, cases_bound, arms_bound, flops_bound)
