-- The forks so far.
use Rattle.hc_cycle.specs.Links.{AreBelow, union_fork}
use Rattle.hc_cycle.proofs.Loops.{ForksLeft}
use Rattle.hc_cycle.proofs.links.add_unions.Given as goal

abbrev pub invariant-loop-union : goal.invariant-loop-union
invariant-loop-union l = ForksLeft (union_fork l.base) (AreBelow l.base) l.table l.union-index l.fn.forks l.forks
