-- Worked rows, against the definition.
use Rattle.std.specs.Prelude.{◌≡◌, false, [], ◌∷◌, codes, refl}
use Rattle.hc_tree.specs.declared.refusal.Rule.TheVariants.{S5, S9, S13, S23}
use Rattle.hc_tree.specs.declared.refusal.Detail.TheVariants.{Nothing, Name, Pair}
use Rattle.hc_tree.specs.declared.expr.ExprTree.TheVariants as e
use Rattle.hc_tree.specs.declared.stmt.Stmt.TheVariants as s
use Rattle.hc_tree.specs.declared.item.Tree.{Tree}
use Rattle.hc_core.specs.Program as p
use Rattle.hc_core.specs.Program.{Statement, stop, ◌⨾◌}
use Rattle.hc_core.specs.declared.object.Kind.TheVariants as kind
use Rattle.hc_scope.specs.Expansion.{Yields}
use Rattle.hc_scope.specs.Expands.{expansion, Stops}
use Rattle.hc_scope.proofs.Computed.{computed}
use Rattle.hc_scope.proofs.Trees.{two, three, name, register, source, assign_to}

-- `unsigned 4 x;` and `x = 5; delay;`
abbrev tree-first : Tree
tree-first = source (register 1 4 12 (codes "x") ∷ []) (assign_to (three 19) (codes "x") (e.Number (three 23) 5) ∷ s.Delay (three 26) ∷ [])

-- `unsigned 8 x; unsigned 4 y;` and `x = y;`
abbrev tree-widths : Tree
tree-widths = source (register 1 8 12 (codes "x") ∷ register 15 4 26 (codes "y") ∷ []) (assign_to (three 19) (codes "x") (name (three 23) (codes "y")) ∷ [])

-- `unsigned 129 x;`
abbrev tree-wide : Tree
tree-wide = source (register 1 129 14 (codes "x") ∷ []) []

-- `unsigned 4 x; unsigned 8 x;`
abbrev tree-twice : Tree
tree-twice = source (register 1 4 12 (codes "x") ∷ register 15 8 26 (codes "x") ∷ []) []

-- ---- what they expand to

-- an empty file
row-empty : Stops (record { items = [] }) (record { rule = S23; place = record { line = 1; column = 1 }; detail = Name (codes "clock") })
unfolding computed
row-empty = refl

row-first : expansion tree-first ≡ Yields (record {
  objects = record { name = codes "x"; place = two 12; kind = kind.Reg 4 false (record { width = 4; signed = false; bits = 0 }) } ∷ [];
  main = p.Seq (three 17) (p.Assign (three 19) (p.ToRegister 0) (p.Constant (record { width = 4; signed = false; bits = 5 })) ⨾ p.Delay (three 26) ⨾ stop);
  clock = codes "clk";
}) (record { objects = record { name = codes "x"; place = two 12; kind = kind.Reg 4 false (record { width = 4; signed = false; bits = 0 }) } ∷ []; visited = 9 })
unfolding computed
row-first = refl

row-widths : Stops tree-widths (record { rule = S9; place = three 19; detail = Pair 8 4 })
unfolding computed
row-widths = refl

row-wide : Stops tree-wide (record { rule = S13; place = two 10; detail = Nothing })
unfolding computed
row-wide = refl

row-twice : Stops tree-twice (record { rule = S5; place = two 26; detail = Name (codes "x") })
unfolding computed
row-twice = refl
