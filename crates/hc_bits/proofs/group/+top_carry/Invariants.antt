use Rattle.std.proofs.Common.{length}
use Rattle.hc_bits.proofs.group.+top_carry.Given as goal

abbrev pub decreases-top_carry : goal.decreases-top_carry
decreases-top_carry l = length l.g.now
