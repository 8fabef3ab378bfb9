use Rattle.std.proofs.Common.{ap}
use Rattle.hc_run.specs.Edif.{shape_lines}
use Rattle.hc_run.proofs.Sending.{IsSending-start_at, IsSending-more, IsSending-pushed_exit, IsSending-memory}
use Rattle.hc_run.proofs.edif.library.send_shapes.Goals as goal

pub loop-words-init : goal.loop-words-init
loop-words-init g c = IsSending-start_at _ _ _ _ (ap shape_lines c.into_iter-words-iterator.ensures.into_iter_gives.0)

pub loop-words-preserved : goal.loop-words-preserved
loop-words-preserved g c = IsSending-more _ _ c.loop-words.invariant (ap shape_lines c.in-Some.ensures.steps) c.in-Ok.ensures c.in_ok-send-in-Ok.ensures.ok

pub returns-in_err-send-in-Ok-clause-err : goal.returns-in_err-send-in-Ok-clause-err
returns-in_err-send-in-Ok-clause-err g c =
    IsSending-pushed_exit _ _ _ c.from_residual.ensures c.loop-words.invariant (ap shape_lines c.in-Some.ensures.steps) c.in-Ok.ensures c.in_err-send-in-Ok.ensures.err

pub returns-in-Err-clause-err : goal.returns-in-Err-clause-err
returns-in-Err-clause-err g c = IsSending-memory c.loop-words.invariant
