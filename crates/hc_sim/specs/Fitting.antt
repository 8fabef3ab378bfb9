-- What an operator between two operands wants of their numbers.
use Rattle.std.specs.Prelude.{◌≡◌, ◌<◌, ◌≤◌, ◌+◌, false}
use Rattle.hc_num.specs.Number.{Number}
use Rattle.hc_core.specs.Typed.{Group, Arithmetic, Division, Bitwise, Comparison, Shifting, Joining, Taking, Dropping, Logic}

-- two numbers of one type
pub record Alike (a b : Number) : Type 0 where
  pub width : a.width ≡ b.width
  pub signed : a.signed ≡ b.signed

-- two numbers of one width without a sign
pub record AlikeUnsigned (a b : Number) : Type 0 where
  pub width : a.width ≡ b.width
  pub unsigned : a.signed ≡ false
  pub other_unsigned : b.signed ≡ false

-- an amount from 1 to the width of the other number
pub record IsTaken (a b : Number) : Type 0 where
  pub least : 1 ≤ b.bits
  pub most : b.bits ≤ a.width

-- the numbers are such that the operators of the group have an answer
abbrev pub Fitting : Group → Number → Number → Type 0
Fitting Arithmetic a b = Alike a b
Fitting Division a b = AlikeUnsigned a b
Fitting Bitwise a b = Alike a b
Fitting Comparison a b = Alike a b
Fitting Shifting a b = Unit {0}
Fitting Joining a b = a.width + b.width ≤ 128
Fitting Taking a b = IsTaken a b
Fitting Dropping a b = b.bits < a.width
Fitting Logic a b = Unit {0}
