use Rattle.std.proofs.Common.{◌≡◌, map, ◌++◌, ◌+◌, drop}
use Rattle.hc_net.specs.Run.{cell_nets}
use Rattle.hc_run.specs.Edif.{each_cell, cell_readers}
use Rattle.hc_run.specs.Pins.{read_by}
use Rattle.hc_run.proofs.Adding.{IsAdding}
use Rattle.hc_run.proofs.edif.readers.add_cell_readers.Given as goal

abbrev pub invariant-loop-cell : goal.invariant-loop-cell
invariant-loop-cell l = let rest = drop l.cell-index l.cells in record {
  net : l.net + cell_nets rest ≡ l.first + cell_nets l.cells;
  adding :
      IsAdding (map read_by l.fn.list.items ++ each_cell cell_readers l.first l.cells) (map read_by l.list.items)
      (each_cell cell_readers l.net rest);
}
