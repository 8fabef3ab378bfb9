use Rattle.std.proofs.Common.{arith}
use Rattle.hc_cycle.specs.Links.{IsBelow, head_fork}
use Rattle.hc_cycle.proofs.Loops.{forks_start, forks_next, forks_end}
use Rattle.hc_cycle.proofs.links.add_heads.Goals as goal

pub loop-set-init : goal.loop-set-init
loop-set-init c = forks_start (head_fork c.args.base) (IsBelow c.args.base) c.args.heads.now _

pub loop-set-preserved : goal.loop-set-preserved
loop-set-preserved c = forks_next (head_fork c.args.base) (IsBelow c.args.base) c.args.heads.now c.loop-set.set-index _ _ _ _ _ c.loop-set-test.true c.loop-set.invariant c.in_ok-add.ensures c.in_ok-fork.ensures.fork c.in_ok-fork.ensures.below

pub returns-clause-forks : goal.returns-clause-forks
returns-clause-forks c = (forks_end (head_fork c.args.base) (IsBelow c.args.base) c.args.heads.now c.loop-set.set-index _ _ (omega arith) c.loop-set.invariant).0

pub returns-clause-below : goal.returns-clause-below
returns-clause-below c = (forks_end (head_fork c.args.base) (IsBelow c.args.base) c.args.heads.now c.loop-set.set-index _ _ (omega arith) c.loop-set.invariant).1
