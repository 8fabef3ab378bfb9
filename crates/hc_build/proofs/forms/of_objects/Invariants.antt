-- What was passed is built.
use Rattle.std.proofs.Common.{length}
use Rattle.hc_build.proofs.FormsPassed.{ObjectsLeft}
use Rattle.hc_build.proofs.forms.of_objects.Given as goal

abbrev pub invariant-loop-rest : goal.invariant-loop-rest
invariant-loop-rest l = ObjectsLeft l.objects l.rest

abbrev pub decreases-loop-rest : goal.decreases-loop-rest
decreases-loop-rest l = length l.rest
