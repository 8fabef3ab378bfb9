use Rattle.std.proofs.Common.{refl, arith}
use Rattle.hc_cycle.proofs.Heads.{heads_start, heads_step, heads_end}
use Rattle.hc_cycle.proofs.sets.Gather.heads.Goals as goal

pub loop-pair-init : goal.loop-pair-init
loop-pair-init c = heads_start _ _ _ _ refl c.requires

pub loop-pair-preserved : goal.loop-pair-preserved
loop-pair-preserved c = heads_step _ _ _ _ _ _ c.loop-pair.pair-index c.args.pairs.now _ c.loop-pair-test.true c.loop-pair.invariant c.in_ok-add_head.ensures

pub returns-clause-heads : goal.returns-clause-heads
returns-clause-heads c = heads_end _ _ _ _ c.loop-pair.pair-index c.args.pairs.now (omega arith) c.loop-pair.invariant

pub returns-clause-size : goal.returns-clause-size
returns-clause-size c = c.loop-pair.invariant.size_is
