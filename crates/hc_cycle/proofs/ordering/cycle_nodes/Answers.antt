use Rattle.hc_cycle.proofs.Loops.{cycle_next}
use Rattle.hc_cycle.proofs.ordering.cycle_nodes.Goals as goal

pub loop-v-preserved : goal.loop-v-preserved
loop-v-preserved c = cycle_next c.args.base c.args.cycle.now c.loop-v.v-index _ c.loop-v.nodes c.add_below.new.nodes c.loop-v-test.true c.loop-v.invariant c.in_ok-add_below.ensures
