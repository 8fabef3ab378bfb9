use Rattle.std.proofs.Common.{length}
use Rattle.hc_bits.proofs.group.+grouped.Given as goal

abbrev pub decreases-grouped : goal.decreases-grouped
decreases-grouped l = length l.g.now
