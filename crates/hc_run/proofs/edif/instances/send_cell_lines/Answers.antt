use Rattle.std.proofs.Common.{arith, refl}
use Rattle.hc_run.specs.Edif.{cell_line}
use Rattle.hc_run.proofs.CellLists.{cell_nets_more}
use Rattle.hc_run.proofs.Numbered.{each_cell_more}
use Rattle.hc_run.proofs.Sending.{IsSending-more, IsSending-pushed_exit, IsSending-memory}
use Rattle.hc_run.proofs.edif.instances.send_cell_lines.Goals as goal

pub returns-in_err-send-in-Ok-clause-err : goal.returns-in_err-send-in-Ok-clause-err
returns-in_err-send-in-Ok-clause-err g c =
    let more = each_cell_more cell_line c.loop-cell.net _ c.args.cells.now c.loop-cell.cell-index _ c.cell-item.result (omega arith) c.cell-item.is refl in
    IsSending-pushed_exit _ _ _ c.from_residual.ensures c.loop-cell.invariant.sending more c.in-Ok.ensures c.in_err-send-in-Ok.ensures.err

pub returns-in-Err-clause-err : goal.returns-in-Err-clause-err
returns-in-Err-clause-err g c = IsSending-memory c.loop-cell.invariant.sending

pub overflow_add-net : goal.overflow_add-net
overflow_add-net g c =
    let nets = cell_nets_more c.args.cells.now c.loop-cell.cell-index _ c.cell-item.result (omega arith) c.cell-item.is in
    omega arith

pub loop-cell-preserved : goal.loop-cell-preserved
loop-cell-preserved g c =
    let nets = cell_nets_more c.args.cells.now c.loop-cell.cell-index _ c.cell-item.result (omega arith) c.cell-item.is in
    let more = each_cell_more cell_line c.loop-cell.net c.cell_width-net.result c.args.cells.now c.loop-cell.cell-index _ c.cell-item.result (omega arith) c.cell-item.is c.cell_width-net.ensures in
    record { net = omega arith; sending = IsSending-more _ _ c.loop-cell.invariant.sending more c.in-Ok.ensures c.in_ok-send-in-Ok.ensures.ok }
