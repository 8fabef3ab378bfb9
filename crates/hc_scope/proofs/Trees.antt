-- Trees of sources, as the worked rows have them: a clock on line 1, declarations on line 2 and `main` on line 3.
use Rattle.std.specs.Prelude.{ℕ, false, true, List, [], ◌∷◌, ◌++◌, codes, None, ◌+◌}
use Rattle.hc_tree.specs.declared.place.Place.{Place}
use Rattle.hc_tree.specs.declared.name.Ident.{Ident}
use Rattle.hc_tree.specs.declared.expr.ExprTree.{ExprTree}
use Rattle.hc_tree.specs.declared.expr.ExprTree.TheVariants as e
use Rattle.hc_tree.specs.declared.expr.«Type».{«Type»}
use Rattle.hc_tree.specs.declared.expr.«Type».TheVariants as type
use Rattle.hc_tree.specs.declared.expr.Size.TheVariants as size
use Rattle.hc_tree.specs.declared.decl.Decl.TheVariants as d
use Rattle.hc_tree.specs.declared.decl.Var.TheVariants as var
use Rattle.hc_tree.specs.declared.item.Item.{Item}
use Rattle.hc_tree.specs.declared.item.Item.TheVariants as item
use Rattle.hc_tree.specs.declared.item.Tree.{Tree}
use Rattle.hc_tree.specs.declared.stmt.Block.{roll-Block}
use Rattle.hc_tree.specs.declared.stmt.Stmt.{Stmt}
use Rattle.hc_tree.specs.declared.stmt.Stmt.TheVariants as s
use Rattle.hc_tree.specs.declared.stmt.Assign.TheVariants as assign
use Rattle.hc_tree.specs.declared.stmt.Simple.TheVariants as simple
use Rattle.hc_tree.specs.declared.stmt.LocalItem.{LocalItem}

-- a place on line 2 or 3
abbrev pub two : ℕ → Place
two column = record { line = 2; column = column }

abbrev pub three : ℕ → Place
three column = record { line = 3; column = column }

abbrev pub ident : Place → List ℕ → Ident
ident place name = record { place = place; name = name }

abbrev pub name : Place → List ℕ → ExprTree
name place x = e.Name (ident place x)

-- `unsigned n`, with the place of the number 9 columns behind
abbrev pub unsigned : ℕ → ℕ → «Type»
unsigned column width = type.Unsigned (two column) false (size.Number (two (column + 9)) width)

-- `unsigned n x;` on line 2
abbrev pub register : ℕ → ℕ → ℕ → List ℕ → Item
register column width at x = item.Decl (d.Vars (two column) false (unsigned column width) (var.Register (ident (two at) x) None ∷ []) None)

-- a block of `main` on line 3
abbrev pub main : List LocalItem → List Stmt → Item
main locals stmts = item.Main (three 1) true (roll-Block (record { place = three 17; declared = locals; stmts = stmts }))

abbrev pub source : List Item → List Stmt → Tree
source declared stmts = record { items = item.Clock (record { line = 1; column = 1 }) (codes "clk") None ∷ (declared ++ main [] stmts ∷ []) }

-- `x = e;`
abbrev pub assign_to : Place → List ℕ → ExprTree → Stmt
assign_to place x v = s.Simple (simple.Assign place (record { name = ident place x; index = None }) assign.Set v)
