use Rattle.std.proofs.Common.{length}
use Rattle.hc_bits.proofs.prefix.+prefix_carries.Given as goal

abbrev pub decreases-prefix_carries : goal.decreases-prefix_carries
decreases-prefix_carries l = length l.g.now
