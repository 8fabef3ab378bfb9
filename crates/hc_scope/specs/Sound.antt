-- Objects that keep their rules, one by one.
use Rattle.std.specs.Prelude.{◌≡◌, ◌≤◌, ℕ, true, List, [], ◌∷◌, ◌++◌, Some, slice_get}
use Rattle.hc_core.specs.Sound.{IsKind, port_names}
use Rattle.hc_core.specs.Typed.{kinds_of}
use Rattle.hc_core.specs.declared.object.Kind.{Kind}
use Rattle.hc_width.specs.Operand.{IsOperand}
use Rattle.hc_scope.specs.Expression.{is_memory}
use Rattle.hc_scope.specs.Parts.{Shown, a_value, a_memory}
use Rattle.hc_core.specs.declared.object.Kind.TheVariants as kind
use Rattle.hc_core.specs.declared.object.Object.{Object}

-- each kind of object is as a sound core has it
abbrev pub AreSound : List Kind → Type 0
AreSound kinds = (k : ℕ) (kind : Kind) → slice_get kinds k ≡ Some kind → IsKind kinds kind

-- what stands before an index is a typed operand, or an array, RAM or ROM
abbrev pub IsShown : List Kind → Shown → Type 0
IsShown kinds (a_value v) = IsOperand kinds v
IsShown kinds (a_memory k) = is_memory (slice_get kinds k) ≡ true

-- objects behind those before, none of them a port, which all keep their rules
pub record Grows (old new : List Object) : Type 0 where
  pub more : List Object
  pub front : new ≡ old ++ more
  pub sound : AreSound (kinds_of new)
  pub ports : port_names new ≡ port_names old

-- objects behind those before, one of them a port of this name, which all keep their rules
pub record GrowsBy (x : List ℕ) (old new : List Object) : Type 0 where
  pub more : List Object
  pub front : new ≡ old ++ more
  pub sound : AreSound (kinds_of new)
  pub ports : port_names new ≡ port_names old ++ x ∷ []

-- an array has at most 4,096 elements
abbrev pub HasFewElements : Kind → Type 0
HasFewElements (kind.Array w s n init) = n ≤ 4096
HasFewElements _ = Unit {0}
