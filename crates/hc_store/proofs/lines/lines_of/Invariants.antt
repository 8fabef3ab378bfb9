use Rattle.hc_store.specs.Lines.{MakesLines}
use Rattle.hc_store.proofs.lines.lines_of.Given as goal

abbrev pub invariant-loop-write : goal.invariant-loop-write
invariant-loop-write l = MakesLines l.fn.count l.enables l.indexes l.write l.fn.b l.b l.lines.items
