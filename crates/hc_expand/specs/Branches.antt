-- Turns, arms and cases as the code has them.
use Rattle.std.specs.Prelude.{ℕ, ℤ, Bool, All, List, Option, Some, None}
use Rattle.hc_core.specs.Program.{Statement, Cases, send_case, receive_case}
use Rattle.hc_core.specs.Read.{statement, expression, target}
use Rattle.hc_core.specs.Sound.{HasType, IsTyped, Sends, Receives}
use Rattle.hc_core.specs.declared.object.Kind.{Kind}
use Rattle.hc_core.specs.declared.stmt.Arm.{Arm}
use Rattle.hc_core.specs.declared.stmt.Case.{Case}
use Rattle.hc_core.specs.declared.stmt.Case.TheVariants as c
use Rattle.hc_scope.specs.Parts.{ArmParts}
use Rattle.hc_expand.specs.declared.cases.Offered.{Offered}
use Rattle.hc_expand.specs.declared.cases.Offered.TheVariants as o
use Rattle.hc_expand.specs.declared.turns.Turned.{Turned}

-- a turn, with the variable's next number
abbrev pub turned_read : Option Turned → Option (Statement × ℤ)
turned_read None = None
turned_read (Some t) = Some (statement t.body, t.next)

-- the body of a turn, if there is one, has the types of its places
abbrev pub IsTurn : List Kind → Option Turned → Type 0
IsTurn kinds None = Unit {0}
IsTurn kinds (Some t) = IsTyped kinds (statement t.body)

-- an arm
abbrev pub arm_read : Arm → ArmParts
arm_read a = record { values = a.values; other = a.other; body = statement a.body }

-- an arm of a selector of this type
pub record IsArm (kinds : List Kind) (w : ℕ) (s : Bool) (a : Arm) : Type 0 where
  pub values : All (HasType w s) a.values
  pub body : IsTyped kinds (statement a.body)

-- what a case waits for
abbrev pub offered_read : Offered → Statement → Cases → Cases
offered_read (o.Send k e) = λ arm rest. send_case k (expression e) arm rest
offered_read (o.Receive k to) = λ arm rest. receive_case k (target to) arm rest

-- what a case waits for has the channel's type
abbrev pub IsOffered : List Kind → Offered → Type 0
IsOffered kinds (o.Send k e) = Sends kinds k (expression e)
IsOffered kinds (o.Receive k to) = Receives kinds k (target to)

-- a case has its channel's type, and its arm the types of its places
abbrev pub IsCase : List Kind → Case → Type 0
IsCase kinds (c.Send k e arm) = Sends kinds k (expression e) × IsTyped kinds (statement arm)
IsCase kinds (c.Recv k to arm) = Receives kinds k (target to) × IsTyped kinds (statement arm)
