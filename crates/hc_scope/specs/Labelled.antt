-- The labels of an arm, one after another.
use Rattle.std.specs.Prelude.{List, ◌++◌}
use Rattle.hc_num.specs.Number.{Number}
use Rattle.hc_tree.specs.declared.stmt.Label.{Label}
use Rattle.hc_scope.specs.Expansion.{Expansion, and_then, pure}
use Rattle.hc_scope.specs.Parts.{Parts, Context, TypeOf}
use Rattle.hc_scope.specs.Statement.{labels}

-- the numbers of the rest of the labels, behind those before
abbrev pub labels_behind : Parts → Context → TypeOf → List Number → List Label → Expansion (List Number)
labels_behind p c t before rest = λ s. and_then (labels p c t rest s) (λ more. pure (before ++ more))
