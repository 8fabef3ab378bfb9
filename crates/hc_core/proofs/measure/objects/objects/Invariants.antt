-- What is added up and what the rest of the objects add make up the whole.
use Rattle.std.proofs.Common.{length}
use Rattle.hc_core.specs.Typed.{kinds_of}
use Rattle.hc_core.proofs.ObjectBounds.{ObjectsListed}
use Rattle.hc_core.proofs.measure.objects.objects.Given as goal

abbrev pub invariant-loop-rest : goal.invariant-loop-rest
invariant-loop-rest l = ObjectsListed (kinds_of l.objects) (kinds_of l.objects) (kinds_of l.rest) l.total.weight l.total.flops

abbrev pub decreases-loop-rest : goal.decreases-loop-rest
decreases-loop-rest l = length l.rest
