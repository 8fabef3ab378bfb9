use Rattle.std.proofs.Common.{[]}
use Rattle.std.specs.Prelude.{replicate}
use Rattle.hc_build.specs.Objects.{AddsNodes, output_wire}
use Rattle.hc_build.proofs.objects.wires.Given as goal

abbrev pub invariant-loop-i : goal.invariant-loop-i
invariant-loop-i l = AddsNodes (replicate l.i output_wire) [] l.fn.b l.b l.nets
