use Rattle.hc_net.proofs.Nodes.{dropped_more}
use Rattle.hc_net.proofs.builder.drop_last.Goals as goal

pub loop-dropped-preserved : goal.loop-dropped-preserved
loop-dropped-preserved c = dropped_more c.args.nodes.now c.pop.new.self c.loop-dropped.nodes c.pop.result c.loop-dropped.dropped c.loop-dropped.invariant c.pop.ensures
