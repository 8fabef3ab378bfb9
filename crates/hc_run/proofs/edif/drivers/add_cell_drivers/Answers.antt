use Rattle.std.proofs.Common.{arith}
use Rattle.hc_run.specs.Edif.{cell_drivers}
use Rattle.hc_run.proofs.Adding.{IsAdding-more}
use Rattle.hc_run.proofs.CellLists.{cell_nets_more}
use Rattle.hc_run.proofs.Numbered.{each_cell_more}
use Rattle.hc_run.proofs.edif.drivers.add_cell_drivers.Goals as goal

pub overflow_add-net : goal.overflow_add-net
overflow_add-net c =
    let nets = cell_nets_more c.args.cells.now c.loop-cell.cell-index _ c.cell-item.result (omega arith) c.cell-item.is in
    omega arith

pub loop-cell-preserved : goal.loop-cell-preserved
loop-cell-preserved c =
    let nets = cell_nets_more c.args.cells.now c.loop-cell.cell-index _ c.cell-item.result (omega arith) c.cell-item.is in
    let more = each_cell_more cell_drivers c.loop-cell.net c.cell_width-net.result c.args.cells.now c.loop-cell.cell-index _ c.cell-item.result (omega arith) c.cell-item.is c.cell_width-net.ensures in
    record { net = omega arith; adding = IsAdding-more _ _ c.loop-cell.invariant.adding c.in_ok-add_cell.ensures more }
