use Rattle.std.proofs.Common.{arith}
use Rattle.hc_cycle.specs.Links.{AreBelow, union_fork}
use Rattle.hc_cycle.proofs.Loops.{forks_start, forks_next, forks_end}
use Rattle.hc_cycle.proofs.links.add_unions.Goals as goal

pub loop-union-init : goal.loop-union-init
loop-union-init c = forks_start (union_fork c.args.base) (AreBelow c.args.base) c.args.table.now _

pub loop-union-preserved : goal.loop-union-preserved
loop-union-preserved c = forks_next (union_fork c.args.base) (AreBelow c.args.base) c.args.table.now c.loop-union.union-index _ _ _ _ _ c.loop-union-test.true c.loop-union.invariant c.in_ok-add.ensures c.in_ok-fork.ensures.fork c.in_ok-fork.ensures.below

pub returns-clause-forks : goal.returns-clause-forks
returns-clause-forks c = (forks_end (union_fork c.args.base) (AreBelow c.args.base) c.args.table.now c.loop-union.union-index _ _ (omega arith) c.loop-union.invariant).0

pub returns-clause-below : goal.returns-clause-below
returns-clause-below c = (forks_end (union_fork c.args.base) (AreBelow c.args.base) c.args.table.now c.loop-union.union-index _ _ (omega arith) c.loop-union.invariant).1
