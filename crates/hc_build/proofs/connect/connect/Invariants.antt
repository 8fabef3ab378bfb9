use Rattle.hc_core.specs.Typed.{kinds_of}
use Rattle.hc_build.proofs.Connecting.{ConnectsFirst}
use Rattle.hc_build.proofs.connect.connect.Given as goal

abbrev pub invariant-loop-k : goal.invariant-loop-k
invariant-loop-k l = ConnectsFirst l.k (kinds_of l.core.objects) l.at l.sources l.fn.b l.b
