-- The forks so far.
use Rattle.hc_cycle.specs.Links.{IsBelow, head_fork}
use Rattle.hc_cycle.proofs.Loops.{ForksLeft}
use Rattle.hc_cycle.proofs.links.add_heads.Given as goal

abbrev pub invariant-loop-set : goal.invariant-loop-set
invariant-loop-set l = ForksLeft (head_fork l.base) (IsBelow l.base) l.heads l.set-index l.fn.forks l.forks
