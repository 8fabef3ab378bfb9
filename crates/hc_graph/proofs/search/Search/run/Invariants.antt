-- The search stands, and no node becomes new.
use Rattle.std.proofs.Common.{◌+◌, ◌*◌, length}
use Rattle.hc_graph.specs.Search.{IsSearch, KeepsMet, new_marks}
use Rattle.hc_graph.proofs.search.Search.run.Given as goal

abbrev pub invariant-loop-node : goal.invariant-loop-node
invariant-loop-node l = IsSearch l.graph l.self.marks l.self.path l.self.passed × KeepsMet l.initial.self.marks l.self.marks

abbrev pub decreases-loop-node : goal.decreases-loop-node
decreases-loop-node l = 2 * new_marks l.self.marks + length l.self.path
