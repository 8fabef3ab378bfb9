-- The numbers of the marks so far.
use Rattle.std.proofs.Common.{◌≡◌, map, take}
use Rattle.hc_graph.specs.Sort.{rank_of}
use Rattle.hc_graph.proofs.sorting.ranks.Given as goal

abbrev pub invariant-loop-mark : goal.invariant-loop-mark
invariant-loop-mark l = l.ranks ≡ map rank_of (take l.mark-index l.marks)
