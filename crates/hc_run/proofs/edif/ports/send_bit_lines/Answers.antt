use Rattle.std.proofs.Common.{arith}
use Rattle.hc_run.specs.Edif.{bit_line, port_width, port_lines}
use Rattle.hc_run.proofs.Numbered.{range_more, range_all}
use Rattle.hc_run.proofs.Sending.{IsSending-start_at, IsSending-more, IsSending-pushed_exit, IsSending-memory}
use Rattle.hc_run.proofs.edif.ports.send_bit_lines.Goals as goal

pub returns-in_err-send-in-Ok-clause-err : goal.returns-in_err-send-in-Ok-clause-err
returns-in_err-send-in-Ok-clause-err g c =
    let more = range_more (bit_line c.args.number c.args.port.now) c.loop-bit.bit c.port_width-width.result (omega arith) in
    IsSending-pushed_exit {all = port_lines c.args.number c.args.port.now} _ _ _ c.from_residual.ensures c.loop-bit.invariant more c.in-Ok.ensures c.in_err-send-in-Ok.ensures.err

pub returns-in-Err-clause-err : goal.returns-in-Err-clause-err
returns-in-Err-clause-err g c = IsSending-memory c.loop-bit.invariant

pub loop-bit-preserved : goal.loop-bit-preserved
loop-bit-preserved g c =
    let more = range_more (bit_line c.args.number c.args.port.now) c.loop-bit.bit c.port_width-width.result (omega arith) in
    IsSending-more {all = port_lines c.args.number c.args.port.now} _ _ c.loop-bit.invariant more c.in-Ok.ensures c.in_ok-send-in-Ok.ensures.ok

pub loop-bit-init : goal.loop-bit-init
loop-bit-init g c =
    IsSending-start_at _ _ _ _ (range_all (bit_line c.args.number c.args.port.now) c.port_width-width.result (port_width c.args.port.now) c.port_width-width.ensures)
