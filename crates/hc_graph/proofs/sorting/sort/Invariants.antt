-- No node is on the path, and none below this one is new.
use Rattle.std.proofs.Common.{◌≡◌, ◌<◌, ℕ, [], Some}
use Rattle.std.specs.Prelude.{slice_get}
use Rattle.hc_graph.specs.declared.search.Mark.TheVariants.{New}
use Rattle.hc_graph.specs.Search.{IsSearch}
use Rattle.hc_graph.proofs.sorting.sort.Given as goal

abbrev pub invariant-loop-node : goal.invariant-loop-node
invariant-loop-node l = IsSearch l.graph l.search.marks l.search.path l.search.passed × (l.search.path ≡ []) × ((a : ℕ) → a < l.node → slice_get l.search.marks a ≡ Some New → ⊥)
