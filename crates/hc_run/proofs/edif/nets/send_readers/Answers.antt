use Rattle.std.proofs.Common.{arith}
use Rattle.hc_run.specs.Pins.{reader_part}
use Rattle.hc_run.proofs.Numbered.{flat_map_more}
use Rattle.hc_run.proofs.Sending.{IsSending-more, IsSending-pushed_exit, IsSending-memory}
use Rattle.hc_run.proofs.edif.nets.send_readers.Goals as goal

pub returns-in_err-send-in-Ok-clause-err : goal.returns-in_err-send-in-Ok-clause-err
returns-in_err-send-in-Ok-clause-err g c =
    let more = flat_map_more reader_part c.args.readers.now c.loop-reader.reader-index _ (omega arith) in
    IsSending-pushed_exit _ _ _ c.from_residual.ensures c.loop-reader.invariant more c.in-Ok.ensures c.in_err-send-in-Ok.ensures.err

pub returns-in-Err-clause-err : goal.returns-in-Err-clause-err
returns-in-Err-clause-err g c = IsSending-memory c.loop-reader.invariant

pub loop-reader-preserved : goal.loop-reader-preserved
loop-reader-preserved g c =
    let more = flat_map_more reader_part c.args.readers.now c.loop-reader.reader-index _ (omega arith) in
    IsSending-more _ _ c.loop-reader.invariant more c.in-Ok.ensures c.in_ok-send-in-Ok.ensures.ok
