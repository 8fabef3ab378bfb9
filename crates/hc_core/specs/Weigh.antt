-- What it takes to add up the weight of a part of a core without overflow.
use Rattle.std.specs.Prelude.{◌≡◌, ◌<◌, ℕ, ◌^◌, List, Bool, Some, slice_get}
use Rattle.std.specs.List.{sum_by}
use Rattle.hc_core.specs.Program.{Expression, Target, Statement, Statements, Cases, Arms}
use Rattle.hc_core.specs.Typed.{HasSomeType}
use Rattle.hc_core.specs.Parts.{expression_parts, target_parts, statement_parts, all_parts, cases_parts, arms_parts, kind_parts}
use Rattle.hc_core.specs.Sound.{IsKind, IsTarget, IsTyped, AllTyped, CasesTyped, ArmsTyped}
use Rattle.hc_core.specs.declared.object.Kind.{Kind}

-- all objects are sound
abbrev pub AreSound : List Kind → Type 0
AreSound kinds = (k : ℕ) (kind : Kind) → slice_get kinds k ≡ Some kind → IsKind kinds kind

-- An expression with a type and few parts.
pub record CanWeigh (kinds : List Kind) (e : Expression) : Type 0 where
  pub sound : AreSound kinds
  pub typed : HasSomeType kinds e
  pub few : expression_parts e < 2 ^ 32

-- A target with a type and few parts.
pub record CanWeighTarget (kinds : List Kind) (t : Target) : Type 0 where
  pub sound : AreSound kinds
  pub width : ℕ
  pub signed : Bool
  pub typed : IsTarget kinds t width signed
  pub few : target_parts t < 2 ^ 32

-- A statement whose parts have the types of their places, and few parts.
pub record CanWeighStatement (kinds : List Kind) (s : Statement) : Type 0 where
  pub sound : AreSound kinds
  pub typed : IsTyped kinds s
  pub few : statement_parts s < 2 ^ 32

-- The same of the statements of a list.
pub record CanWeighList (kinds : List Kind) (all : Statements) : Type 0 where
  pub sound : AreSound kinds
  pub typed : AllTyped kinds all
  pub few : all_parts all < 2 ^ 32

-- The same of the cases of a `prialt`.
pub record CanWeighCases (kinds : List Kind) (all : Cases) : Type 0 where
  pub sound : AreSound kinds
  pub typed : CasesTyped kinds all
  pub few : cases_parts all < 2 ^ 32

-- The same of the arms of a `switch`.
pub record CanWeighArms (kinds : List Kind) (all : Arms) : Type 0 where
  pub sound : AreSound kinds
  pub width : ℕ
  pub signed : Bool
  pub typed : ArmsTyped kinds width signed all
  pub few : arms_parts all < 2 ^ 32

-- A sound object of few parts.
pub record CanWeighKind (kinds : List Kind) (kind : Kind) : Type 0 where
  pub sound : AreSound kinds
  pub is : IsKind kinds kind
  pub few : kind_parts kind < 2 ^ 32

-- The same of the objects of a list, among all those of the core.
pub record CanWeighObjects (kinds rest : List Kind) : Type 0 where
  pub sound : AreSound kinds
  pub are : (k : ℕ) (kind : Kind) → slice_get rest k ≡ Some kind → IsKind kinds kind
  pub few : sum_by kind_parts rest < 2 ^ 32
