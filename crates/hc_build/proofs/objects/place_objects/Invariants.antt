use Rattle.std.proofs.Common.{take}
use Rattle.hc_build.proofs.Placing.{Placed}
use Rattle.hc_build.proofs.objects.place_objects.Given as goal

abbrev pub invariant-loop-k : goal.invariant-loop-k
invariant-loop-k l = Placed (take l.k l.objects) l.core.clock l.b l.all
