use Rattle.std.proofs.Common.{arith}
use Rattle.hc_run.specs.Pins.{clock_part}
use Rattle.hc_run.proofs.Numbered.{flat_map_more}
use Rattle.hc_run.proofs.Sending.{IsSending-more, IsSending-pushed_exit, IsSending-memory}
use Rattle.hc_run.proofs.edif.nets.send_flop_clocks.Goals as goal

pub returns-in_err-send-in-Ok-clause-err : goal.returns-in_err-send-in-Ok-clause-err
returns-in_err-send-in-Ok-clause-err g c =
    let more = flat_map_more clock_part c.args.flops.now c.loop-flop.flop-index _ (omega arith) in
    IsSending-pushed_exit _ _ _ c.from_residual.ensures c.loop-flop.invariant more c.in-Ok.ensures c.in_err-send-in-Ok.ensures.err

pub returns-in-Err-clause-err : goal.returns-in-Err-clause-err
returns-in-Err-clause-err g c = IsSending-memory c.loop-flop.invariant

pub loop-flop-preserved : goal.loop-flop-preserved
loop-flop-preserved g c =
    let more = flat_map_more clock_part c.args.flops.now c.loop-flop.flop-index _ (omega arith) in
    IsSending-more _ _ c.loop-flop.invariant more c.in-Ok.ensures c.in_ok-send-in-Ok.ensures.ok
