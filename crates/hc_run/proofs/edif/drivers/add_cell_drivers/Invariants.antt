use Rattle.std.proofs.Common.{◌≡◌, map, ◌++◌, ◌+◌, drop}
use Rattle.hc_net.specs.Run.{cell_nets}
use Rattle.hc_run.specs.Edif.{each_cell, cell_drivers}
use Rattle.hc_run.specs.Pins.{ref_of}
use Rattle.hc_run.proofs.Adding.{IsAdding}
use Rattle.hc_run.proofs.edif.drivers.add_cell_drivers.Given as goal

abbrev pub invariant-loop-cell : goal.invariant-loop-cell
invariant-loop-cell l = let rest = drop l.cell-index l.cells in record {
  net : l.net + cell_nets rest ≡ l.first + cell_nets l.cells;
  adding :
      IsAdding (map ref_of l.fn.pins.items ++ each_cell cell_drivers l.first l.cells) (map ref_of l.pins.items)
      (each_cell cell_drivers l.net rest);
}
