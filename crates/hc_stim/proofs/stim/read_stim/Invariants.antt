use Rattle.std.proofs.Common.{length}
use Rattle.hc_stim.proofs.Kept.{Kept}
use Rattle.hc_stim.proofs.stim.read_stim.Given as goal

abbrev pub invariant-loop-rest : goal.invariant-loop-rest
invariant-loop-rest l = Kept l.widths.items l.fn.bytes l.clocks l.values.items l.rest

abbrev pub decreases-loop-rest : goal.decreases-loop-rest
decreases-loop-rest l = length l.rest
