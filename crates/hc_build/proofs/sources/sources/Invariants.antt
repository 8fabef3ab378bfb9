-- What the first objects read.
use Rattle.hc_core.specs.Typed.{kinds_of}
use Rattle.hc_build.proofs.SourcesMade.{SomeSources}
use Rattle.hc_build.proofs.sources.sources.Given as goal

abbrev pub invariant-loop-k : goal.invariant-loop-k
invariant-loop-k l = SomeSources (kinds_of l.core.objects) l.at l.uses l.k l.fn.b l.b l.all
