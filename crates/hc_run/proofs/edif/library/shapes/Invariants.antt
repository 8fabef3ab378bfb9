use Rattle.std.proofs.Common.{◌≡◌, [], drop}
use Rattle.hc_net.specs.Run.{rams_of}
use Rattle.hc_run.specs.Edif.{with_shapes}
use Rattle.hc_run.proofs.edif.library.shapes.Given as goal

abbrev pub invariant-loop-cell : goal.invariant-loop-cell
invariant-loop-cell l = with_shapes l.shapes.keys (rams_of (drop l.cell-index l.cells)) ≡ with_shapes [] (rams_of l.cells)
