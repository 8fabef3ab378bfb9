-- Steps of replicators, arms, cases and defaults as nodes, by the room around them.
use Rattle.std.proofs.Common.{◌≡◌, ℕ, suc, zero, ◌-◌, Bool, ℤ, false, ap}
use Rattle.hc_tree.specs.declared.name.Ident.{Ident}
use Rattle.hc_tree.specs.declared.stmt.Simple.{Simple}
use Rattle.hc_tree.specs.declared.stmt.Arm.{Arm, out-Arm}
use Rattle.hc_tree.specs.declared.stmt.Case.{Case, out-Case}
use Rattle.hc_tree.specs.declared.stmt.Other.{Other, out-Other}
use Rattle.hc_scope.specs.declared.state.State.{State}
use Rattle.hc_scope.specs.Expansion.{and_then, visit, entered}
use Rattle.hc_scope.specs.Parts.{Context, simple_place}
use Rattle.hc_scope.specs.Statement.{step_form, arm_form, case_form, other_form}
use Rattle.hc_scope.specs.Nodes.{nodes}
use Rattle.hc_evaluate.proofs.Depth.{refused_then, one_less}

-- the step of a replicator
pub step_is : (room : ℕ) (c : Context) (x : Ident) (v : ℤ) (by : Simple) (s : State)
    → (nodes room).step c x v by s ≡ and_then (entered room false c.calls (simple_place by) s) (λ u. step_form (nodes (room - 1)) c x v by)
unfolding nodes
step_is zero c x v by s = refused_then (visit false c.calls (simple_place by) s) (simple_place by) (λ u. step_form (nodes zero) c x v by)
step_is (suc room) c x v by s =
    ap (λ (n : ℕ). and_then (entered (suc room) false c.calls (simple_place by) s) (λ u. step_form (nodes n) c x v by)) (one_less room)

-- an arm of a `switch`
pub arm_is : (room : ℕ) (c : Context) (w : ℕ) (signed : Bool) (a : Arm) (s : State)
    → (nodes room).arm c w signed a s ≡ and_then (entered room false c.calls (out-Arm a).place s) (λ u. arm_form (nodes (room - 1)) c w signed a)
unfolding nodes
arm_is zero c w signed a s = refused_then (visit false c.calls (out-Arm a).place s) (out-Arm a).place (λ u. arm_form (nodes zero) c w signed a)
arm_is (suc room) c w signed a s =
    ap (λ (n : ℕ). and_then (entered (suc room) false c.calls (out-Arm a).place s) (λ u. arm_form (nodes n) c w signed a)) (one_less room)

-- a case of a `prialt`
pub case_is : (room : ℕ) (c : Context) (x : Case) (s : State)
    → (nodes room).case c x s ≡ and_then (entered room false c.calls (out-Case x).place s) (λ u. case_form (nodes (room - 1)) c x)
unfolding nodes
case_is zero c x s = refused_then (visit false c.calls (out-Case x).place s) (out-Case x).place (λ u. case_form (nodes zero) c x)
case_is (suc room) c x s =
    ap (λ (n : ℕ). and_then (entered (suc room) false c.calls (out-Case x).place s) (λ u. case_form (nodes n) c x)) (one_less room)

-- the default of a `prialt`
pub other_is : (room : ℕ) (c : Context) (x : Other) (s : State)
    → (nodes room).other c x s ≡ and_then (entered room false c.calls (out-Other x).place s) (λ u. other_form (nodes (room - 1)) c x)
unfolding nodes
other_is zero c x s = refused_then (visit false c.calls (out-Other x).place s) (out-Other x).place (λ u. other_form (nodes zero) c x)
other_is (suc room) c x s =
    ap (λ (n : ℕ). and_then (entered (suc room) false c.calls (out-Other x).place s) (λ u. other_form (nodes n) c x)) (one_less room)
