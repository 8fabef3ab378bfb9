use Rattle.std.proofs.Common.{arith}
use Rattle.hc_run.specs.Edif.{port_lines}
use Rattle.hc_run.proofs.Numbered.{each_from_0_at}
use Rattle.hc_run.proofs.Sending.{IsSending-sent, IsSending-exit}
use Rattle.hc_run.proofs.edif.ports.send_port_lines.Goals as goal

pub returns-in_err-send_bit_lines-clause-err : goal.returns-in_err-send_bit_lines-clause-err
returns-in_err-send_bit_lines-clause-err g c =
    let more = each_from_0_at port_lines c.args.ports.now c.loop-k.k c.index-ports-k.result (omega arith) c.index-ports-k.is in
    IsSending-exit _ _ _ c.from_residual.ensures c.loop-k.invariant more c.in_err-send_bit_lines.ensures.err

pub loop-k-preserved : goal.loop-k-preserved
loop-k-preserved g c =
    let more = each_from_0_at port_lines c.args.ports.now c.loop-k.k c.index-ports-k.result (omega arith) c.index-ports-k.is in
    IsSending-sent _ _ c.loop-k.invariant more c.in_ok-send_bit_lines.ensures.ok
