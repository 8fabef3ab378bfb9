use Rattle.std.proofs.Common.{length}
use Rattle.hc_outside.proofs.UnderWay.{IsUnderWay}
use Rattle.hc_outside.proofs.writes.write_all.Given as goal

abbrev pub invariant-loop-rest : goal.invariant-loop-rest
invariant-loop-rest g l = IsUnderWay l.piece l.rest (g.K.Sink.state l.fn.out) (g.K.Sink.state l.out)

abbrev pub decreases-loop-rest : goal.decreases-loop-rest
decreases-loop-rest g l = length l.rest
