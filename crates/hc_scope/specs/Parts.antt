-- How the parts of a node are expanded, and where nodes of the tree stand.
use Rattle.std.specs.Prelude.{ℕ, Bool, List, Option, ℤ}
use Rattle.hc_tree.specs.declared.place.Place.{Place}
use Rattle.hc_tree.specs.declared.name.Ident.{Ident}
use Rattle.hc_tree.specs.declared.decl.Mem.{Mem}
use Rattle.hc_tree.specs.declared.decl.Sig.{Sig}
use Rattle.hc_tree.specs.declared.expr.ExprTree.{ExprTree, out-ExprTree}
use Rattle.hc_tree.specs.declared.expr.ExprTree.TheOpen.{ExprTree-F}
use Rattle.hc_tree.specs.declared.stmt.Simple.{Simple}
use Rattle.hc_tree.specs.declared.stmt.Simple.TheVariants as simple
use Rattle.hc_tree.specs.declared.stmt.Stmt.{Stmt}
use Rattle.hc_tree.specs.declared.stmt.Block.{Block}
use Rattle.hc_tree.specs.declared.stmt.Arm.{Arm}
use Rattle.hc_tree.specs.declared.stmt.Case.{Case}
use Rattle.hc_tree.specs.declared.stmt.Other.{Other}
use Rattle.hc_core.specs.Program.{Statement, Cases}
use Rattle.hc_num.specs.Number.{Number}
use Rattle.hc_width.specs.Operand.{Operand}
use Rattle.hc_scope.specs.Scope.{Scope, Layer}
use Rattle.hc_scope.specs.Expansion.{Expansion}

-- the scope of a node, and how many macro calls stand around it
pub record Context : Type 0 where
  pub scope : Scope
  pub calls : ℕ

abbrev pub within : Scope → Context → Context
within scope c = record { scope = scope; calls = c.calls }

-- what an expression stands for before an index: a value, or an array, RAM or ROM
pub data Shown : Type 0 where
  a_value : Operand → Shown
  a_memory : ℕ → Shown

-- an arm of `switch`: the values of its labels, whether `default` is one, and its body
pub record ArmParts : Type 0 where
  pub values : List Number
  pub other : Bool
  pub body : Statement

-- a width in bits, and whether there is a sign
pub record TypeOf : Type 0 where
  pub width : ℕ
  pub signed : Bool

-- a name of a declaration, with what is written of its object
pub data DeclaredName : Type 0 where
  a_register : Ident → Option ExprTree → DeclaredName
  an_array : Mem → DeclaredName
  a_ram : Mem → DeclaredName
  a_rom : Mem → DeclaredName
  a_signal : Sig → DeclaredName
  a_channel : Ident → DeclaredName

-- How nodes are expanded that stand at some depth.
pub record Parts : Type 0 where
  -- a node without parts
  pub leaf : Context → Place → Expansion (Unit {0})
  -- a declared name, with the type of its declaration; the context behind it
  pub name : Context → TypeOf → DeclaredName → Expansion Context
  pub expression : Context → ExprTree → Expansion Operand
  pub before_index : Context → ExprTree → Expansion Shown
  -- a part of `for`
  pub simple : Context → Simple → Expansion Statement
  -- the step of a replicator, by its variable and the variable's number; the next number
  pub step : Context → Ident → ℤ → Simple → Expansion ℤ
  pub statement : Context → Stmt → Expansion Statement
  pub block : Context → Block → Expansion (List Statement)
  -- an arm, by the type of the selector
  pub arm : Context → ℕ → Bool → Arm → Expansion ArmParts
  -- a case, in front of others
  pub case : Context → Case → Expansion (Cases → Cases)
  pub other : Context → Other → Expansion Statement

-- ---- places

-- the name of a declared name
abbrev pub ident_of : DeclaredName → Ident
ident_of (a_register x init) = x
ident_of (an_array m) = m.name
ident_of (a_ram m) = m.name
ident_of (a_rom m) = m.name
ident_of (a_signal g) = g.name
ident_of (a_channel x) = x

abbrev pub layer_place : Layer → Place
layer_place (ExprTree-F.ExprTree::Number place value) = place
layer_place (ExprTree-F.ExprTree::Name x) = x.place
layer_place (ExprTree-F.Call x arguments) = x.place
layer_place (ExprTree-F.Port x port) = x.place
layer_place (ExprTree-F.Width place of) = place
layer_place (ExprTree-F.Select place c a b) = place
layer_place (ExprTree-F.Index place of at) = place
layer_place (ExprTree-F.Bits place of high low) = place
layer_place (ExprTree-F.Unary place op of) = place
layer_place (ExprTree-F.Cast place to of) = place
layer_place (ExprTree-F.Binary place left op right) = place
layer_place (ExprTree-F.Choice place c a b) = place

-- the place of an expression
abbrev pub place_of : ExprTree → Place
place_of e = layer_place (out-ExprTree e)

-- the place of a part of `for` or a replicator's step
abbrev pub simple_place : Simple → Place
simple_place (simple.Assign place target assign value) = place
simple_place (simple.After place target step) = place
simple_place (simple.Before place step target) = place
