use Rattle.std.proofs.Common.{arith}
use Rattle.hc_run.specs.Edif.{cell_readers}
use Rattle.hc_run.proofs.Adding.{IsAdding-more}
use Rattle.hc_run.proofs.CellLists.{cell_nets_more, sizes_at}
use Rattle.hc_run.proofs.Numbered.{each_cell_more}
use Rattle.hc_run.proofs.edif.readers.add_cell_readers.Goals as goal

pub add_cell-requires : goal.add_cell-requires
add_cell-requires c = sizes_at c.args.cells.now c.loop-cell.cell-index _ c.cell-item.result (omega arith) c.cell-item.is c.requires.sizes

pub overflow_add-net : goal.overflow_add-net
overflow_add-net c =
    let nets = cell_nets_more c.args.cells.now c.loop-cell.cell-index _ c.cell-item.result (omega arith) c.cell-item.is in
    omega arith

pub loop-cell-preserved : goal.loop-cell-preserved
loop-cell-preserved c =
    let nets = cell_nets_more c.args.cells.now c.loop-cell.cell-index _ c.cell-item.result (omega arith) c.cell-item.is in
    let more = each_cell_more cell_readers c.loop-cell.net c.cell_width-net.result c.args.cells.now c.loop-cell.cell-index _ c.cell-item.result (omega arith) c.cell-item.is c.cell_width-net.ensures in
    record { net = omega arith; adding = IsAdding-more _ _ c.loop-cell.invariant.adding c.in_ok-add_cell.ensures more }
