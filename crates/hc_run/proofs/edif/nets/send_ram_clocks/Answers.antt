use Rattle.std.proofs.Common.{arith}
use Rattle.hc_run.proofs.NetText.{ram_clocks_more}
use Rattle.hc_run.proofs.Sending.{IsSending-more, IsSending-pushed_exit, IsSending-memory}
use Rattle.hc_run.proofs.edif.nets.send_ram_clocks.Goals as goal

pub returns-in_err-send-in-Ok-clause-err : goal.returns-in_err-send-in-Ok-clause-err
returns-in_err-send-in-Ok-clause-err g c =
    let more = ram_clocks_more c.args.cells.now c.loop-cell.cell-index _ c.cell-item.result (omega arith) c.cell-item.is in
    IsSending-pushed_exit _ _ _ c.from_residual.ensures c.loop-cell.invariant more c.in-Ok.ensures c.in_err-send-in-Ok.ensures.err

pub returns-in-Err-clause-err : goal.returns-in-Err-clause-err
returns-in-Err-clause-err g c = IsSending-memory c.loop-cell.invariant

pub loop-cell-preserved : goal.loop-cell-preserved
loop-cell-preserved g c =
    let more = ram_clocks_more c.args.cells.now c.loop-cell.cell-index _ c.cell-item.result (omega arith) c.cell-item.is in
    IsSending-more _ _ c.loop-cell.invariant more c.in-Ok.ensures c.in_ok-send-in-Ok.ensures.ok
