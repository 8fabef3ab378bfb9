use Rattle.hc_outside.proofs.UnderWay.{IsUnderWay-sliced}
use Rattle.hc_outside.proofs.writes.write_all.Goals as goal

pub loop-rest-preserved : goal.loop-rest-preserved
loop-rest-preserved g c = IsUnderWay-sliced c.in-Ok.n c.loop-rest.invariant c.in-Ok.ensures.ok
