-- Operands: constants, and expressions of the core that have a type.
use Rattle.std.specs.Prelude.{◌≤◌, ℤ, List, Bool, ℕ}
use Rattle.hc_core.specs.Program.{Expression, Constant}
use Rattle.hc_core.specs.Read.{expression}
use Rattle.hc_core.specs.Typed.{Typed, width_of, sign_of}
use Rattle.hc_core.specs.declared.object.Kind.{Kind}
use Rattle.hc_width.specs.Whole.{number_in, holds}
use Rattle.hc_width.specs.declared.value.Value.{Value}
use Rattle.hc_width.specs.declared.value.Value.TheVariants as value
use Rattle.hc_num.specs.Compare.{truth}

pub data Operand : Type 0 where
  Whole : ℤ → Operand
  Of : Expression → Operand

-- what a value of the code stands for
abbrev pub operand : Value → Operand
operand (value.Constant v) = Whole v
operand (value.Typed e) = Of (expression e)

-- An expression has a type over objects of these kinds, and its width is from 1 to 128.
pub record IsTyped (kinds : List Kind) (e : Expression) : Type 0 where
  pub typed : Typed kinds e (width_of kinds e) (sign_of kinds e)
  pub least : 1 ≤ width_of kinds e
  pub most : width_of kinds e ≤ 128

-- a typed operand has a type over objects of these kinds
abbrev pub IsOperand : List Kind → Operand → Type 0
IsOperand kinds (Whole v) = Unit {0}
IsOperand kinds (Of e) = IsTyped kinds e

-- a typed operand of this width and sign
abbrev pub HasType : List Kind → Operand → ℕ → Bool → Type 0
HasType kinds (Whole v) w s = ⊥
HasType kinds (Of e) w s = Typed kinds e w s

-- a constant as an expression of a type
abbrev pub constant_in : ℕ → Bool → ℤ → Expression
constant_in w s v = Constant (number_in w s v)

-- a constant that is a condition, beside what is typed: one unsigned bit
abbrev pub condition_in : ℤ → Expression
condition_in v = Constant (truth (holds v))
