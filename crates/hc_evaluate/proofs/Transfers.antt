-- What is sent and received has its channel's type.
use Rattle.std.proofs.Common.{ℕ, Bool, List}
use Rattle.hc_tree.specs.declared.place.Place.{Place}
use Rattle.hc_core.specs.Read.{expression, target, statement}
use Rattle.hc_core.specs.Sound.{IsTyped, IsTarget, IsKept}
use Rattle.hc_core.specs.Typed.{Typed}
use Rattle.hc_core.specs.declared.expr.Expr.{Expr}
use Rattle.hc_core.specs.declared.stmt.Target.{Target}
use Rattle.hc_core.specs.declared.stmt.Stmt.TheVariants as s
use Rattle.hc_core.specs.declared.object.Kind.{Kind}
use Rattle.hc_core.proofs.Read.{read_Send, read_Recv}
use Rattle.hc_evaluate.specs.Targets.{IsChannelOf}

pub sends_typed : (kinds : List Kind) (place : Place) (k w : ℕ) (signed : Bool) (e : Expr) → IsChannelOf kinds k w signed → Typed kinds (expression e) w signed
    → IsTyped kinds (statement (s.Send place k e))
sends_typed kinds place k w signed e is typed =
    rw (read_Send place k e) (record { width = w; signed = signed; queue = is.0; chan_is = is.1; value = typed })

pub receives_typed : (kinds : List Kind) (place : Place) (k w : ℕ) (signed : Bool) (to : Target) → IsChannelOf kinds k w signed → IsKept (target to)
    → IsTarget kinds (target to) w signed → IsTyped kinds (statement (s.Recv place k to))
receives_typed kinds place k w signed to is kept typed =
    rw (read_Recv place k to) (record { width = w; signed = signed; queue = is.0; chan_is = is.1; kept = kept; target = typed })
