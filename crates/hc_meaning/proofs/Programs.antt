-- Parts of programs, for the rows.
use Rattle.std.proofs.Common.{ℕ, List, [], ◌∷◌, map, Bool, false, None}
use Rattle.hc_num.specs.Number.{Number}
use Rattle.hc_tree.specs.declared.place.Place.{Place}
use Rattle.hc_core.specs.declared.expr.BinOp.TheVariants.{Add, Eq}
use Rattle.hc_core.specs.declared.expr.Expr.{Expr}
use Rattle.hc_core.specs.declared.expr.Expr.TheVariants as e
use Rattle.hc_core.specs.declared.stmt.Stmt.{Stmt}
use Rattle.hc_core.specs.declared.stmt.Stmt.TheVariants as s
use Rattle.hc_core.specs.declared.stmt.Case.{Case}
use Rattle.hc_core.specs.declared.stmt.Case.TheVariants as c
use Rattle.hc_core.specs.declared.stmt.Arm.{Arm}
use Rattle.hc_core.specs.declared.stmt.Target.TheVariants as t
use Rattle.hc_core.specs.declared.object.Kind.{Kind}
use Rattle.hc_core.specs.declared.object.Kind.TheVariants as kind
use Rattle.hc_core.specs.declared.object.Object.{Object}
use Rattle.hc_core.specs.declared.object.Core.{Core}

abbrev pub here : Place
here = record { line = 1; column = 1 }

abbrev pub number : ℕ → ℕ → Number
number width bits = record { width = width; signed = false; bits = bits }

abbrev pub object : Kind → Object
object kind = record { name = []; place = here; kind = kind }

-- a program of these parts in sequence
abbrev pub core : List Kind → List Stmt → Core
core kinds parts = record { objects = map object kinds; main = s.Seq here parts; clock = [] }

abbrev pub no_inputs : ℕ → List ℕ
no_inputs t = []

abbrev pub reg : ℕ → ℕ → Kind
reg width bits = kind.Reg width false (number width bits)

abbrev pub array : ℕ → List ℕ → Kind
array length init = kind.Array 4 false length (map (number 4) init)

abbrev pub ram : ℕ → List ℕ → Kind
ram length init = kind.Ram 4 false length (map (number 4) init)

abbrev pub rom : ℕ → List ℕ → Kind
rom length init = kind.Rom 4 false length (map (number 4) init)

abbrev pub sig : ℕ → Kind
sig unset = kind.Signal 4 false (number 4 unset)

abbrev pub chan : Kind
chan = kind.Chan 4 false 0

abbrev pub const : ℕ → ℕ → Expr
const width bits = e.Const (number width bits)

-- a register of four bits is set to a number
abbrev pub sets : ℕ → ℕ → Stmt
sets k bits = s.Assign here (t.Reg k) (const 4 bits)

abbrev pub takes : ℕ → Expr → Stmt
takes k value = s.Assign here (t.Reg k) value

-- `x = x + 1;`
abbrev pub counts : ℕ → Stmt
counts k = takes k (e.Binary Add (e.Reg k) (const 4 1))

abbrev pub delay : Stmt
delay = s.Delay here

abbrev pub par : List Stmt → Stmt
par branches = s.Par here branches

abbrev pub seq : List Stmt → Stmt
seq parts = s.Seq here parts

abbrev pub sends : ℕ → ℕ → Stmt
sends channel bits = s.Send here channel (const 4 bits)

abbrev pub receives : ℕ → ℕ → Stmt
receives channel k = s.Recv here channel (t.Reg k)

-- a `prialt` of one case, without a default
abbrev pub waits_for : Case → Stmt
waits_for one = s.Prialt here (one ∷ []) None

abbrev pub receive_case : ℕ → ℕ → List Stmt → Case
receive_case channel k arm = c.Recv channel (t.Reg k) (seq arm)

abbrev pub send_case : ℕ → ℕ → List Stmt → Case
send_case channel bits arm = c.Send channel (const 4 bits) (seq arm)

abbrev pub arm_of : List ℕ → Bool → List Stmt → Arm
arm_of values other body = record { values = map (number 4) values; other = other; body = seq body }

-- whether the first word of the RAM with number 2 is 1, and a statement that asks it
abbrev pub word_is_one : Expr
word_is_one = e.Binary Eq (e.Word 2 (const 1 0)) (const 4 1)

abbrev pub tests_word : Stmt
tests_word = s.If here word_is_one delay s.Skip
