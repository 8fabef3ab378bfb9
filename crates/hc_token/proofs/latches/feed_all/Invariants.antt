use Rattle.hc_token.proofs.LatchNodes.{FeedsTo}
use Rattle.hc_token.proofs.latches.feed_all.Given as goal

abbrev pub invariant-loop-i : goal.invariant-loop-i
invariant-loop-i l = FeedsTo l.i l.latches l.sources l.initial.b l.b
