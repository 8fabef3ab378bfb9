use Rattle.std.proofs.Common.{take}
use Rattle.std.specs.Prelude.{map}
use Rattle.hc_net.specs.Run.{with_cells}
use Rattle.hc_netsim.proofs.Walk.{Walks}
use Rattle.hc_netsim.proofs.settle.put_cells.Given as goal

abbrev pub invariant-loop-cell : goal.invariant-loop-cell
invariant-loop-cell l = Walks l.cells l.memories l.first l.cell-index l.ram l.net l.values (with_cells l.cells (map (λ m. m.bits) l.memories) (take l.first l.initial.values))
