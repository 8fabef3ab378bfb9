-- The marks so far are new.
use Rattle.std.proofs.Common.{◌≡◌, ℕ, Some, length}
use Rattle.std.specs.Prelude.{slice_get}
use Rattle.hc_graph.specs.declared.search.Mark.{Mark}
use Rattle.hc_graph.specs.declared.search.Mark.TheVariants.{New}
use Rattle.hc_graph.specs.Search.{new_marks}
use Rattle.hc_graph.proofs.search.Search.new.Given as goal

abbrev pub invariant-loop-fork : goal.invariant-loop-fork
invariant-loop-fork l = (length l.marks ≡ l._fork-index) × (new_marks l.marks ≡ l._fork-index) × ((a : ℕ) (m : Mark) → slice_get l.marks a ≡ Some m → m ≡ New)
