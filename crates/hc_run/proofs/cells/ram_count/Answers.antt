use Rattle.std.proofs.Common.{arith}
use Rattle.hc_run.proofs.CellLists.{all_cells, ram_count_more}
use Rattle.hc_run.proofs.cells.ram_count.Goals as goal

pub overflow_add-count : goal.overflow_add-count
overflow_add-count c =
    let more = ram_count_more c.args.cells.now c.loop-cell.cell-index _ c.cell-item.result (omega arith) c.cell-item.is in
    let all = all_cells c.args.cells.now in
    omega arith

pub loop-cell-preserved : goal.loop-cell-preserved
loop-cell-preserved c =
    let more = ram_count_more c.args.cells.now c.loop-cell.cell-index _ c.cell-item.result (omega arith) c.cell-item.is in
    omega arith
