-- Where a scope declares a name.
use Rattle.std.specs.Prelude.{◌≡◌, ℕ, ◌+◌, ◌<◌, true, List, length, take, slice_get, Option, Some, None}
use denote.Bor.{Bor}
use Rattle.hc_tree.specs.declared.name.Ident.{Ident}
use Rattle.hc_tree.specs.declared.expr.ExprTree.{ExprTree}
use Rattle.hc_scope.specs.Scope.{Scope, Meaning, an_argument, find, is_declared}
use Rattle.hc_scope.specs.Expression.{bound}
use Rattle.hc_scope.specs.Reading.{declared_of, declared_in}
use Rattle.hc_scope.specs.declared.scope.Declared.{Declared}

-- a name isn't declared between a scope and one around it
pub record Passes (name : List ℕ) (inner around : Scope) : Type 0 where
  pub found : find name inner ≡ find name around
  pub told : is_declared name inner ≡ is_declared name around

-- the innermost scope declares a name, and this is its meaning and the chain from its declaration on
pub record Declares (name : List ℕ) (meaning : Meaning) (from inner : Scope) : Type 0 where
  pub found : find name inner ≡ Some (record { meaning = meaning; scope = from })
  pub told : is_declared name inner ≡ true

-- the first so many names of a table don't have a name, or one at this index has it
abbrev pub IsAmong : List ℕ → List (Bor (List ℕ) × Declared) → ℕ → Option (ℕ × Declared) → Type 0
IsAmong name names seen None = (around : Scope) → Passes name (declared_in (take seen names) around) around
IsAmong name names seen (Some p) =
    (around : Scope) → Declares name (declared_of p.1) (declared_in (take (p.0 + 1) names) around) (declared_in (take seen names) around)

-- the first so many parameters with their arguments don't have a name, or the one at this index has it
abbrev pub IsBoundAt : List ℕ → List Ident → List ExprTree → ℕ → Option ℕ → Type 0
IsBoundAt name parameters arguments seen None = (call around : Scope) → Passes name (bound call (take seen parameters) arguments around) around
IsBoundAt name parameters arguments seen (Some k) = (k < length parameters) × (k < length arguments) × ((call around : Scope) (argument : ExprTree) → slice_get arguments k ≡ Some argument
    → Declares name (an_argument argument call) (bound call (take (k + 1) parameters) arguments around) (bound call (take seen parameters) arguments around))

-- the same of all parameters
abbrev pub IsBound : List ℕ → List Ident → List ExprTree → Option ℕ → Type 0
IsBound name parameters arguments None = (call around : Scope) → Passes name (bound call parameters arguments around) around
IsBound name parameters arguments (Some k) = (k < length parameters) × (k < length arguments) × ((call around : Scope) (argument : ExprTree) → slice_get arguments k ≡ Some argument
    → Declares name (an_argument argument call) (bound call (take (k + 1) parameters) arguments around) (bound call parameters arguments around))
