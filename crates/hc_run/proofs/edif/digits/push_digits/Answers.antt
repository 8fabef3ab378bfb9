use Rattle.std.proofs.Common.{arith}
use Rattle.hc_run.proofs.Adding.{IsAdding-more}
use Rattle.hc_run.proofs.Digits.{digits_more}
use Rattle.hc_run.proofs.edif.digits.push_digits.Goals as goal

pub loop-i-preserved : goal.loop-i-preserved
loop-i-preserved c =
    IsAdding-more _ _ c.loop-i.invariant c.in_ok-push.ensures.items (digits_more c.args.bits.now c.loop-i.i c.digit_of.result (omega arith) c.digit_of.ensures)
