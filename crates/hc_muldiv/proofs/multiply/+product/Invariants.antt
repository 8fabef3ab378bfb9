use Rattle.std.proofs.Common.{length}
use Rattle.hc_muldiv.proofs.multiply.+product.Given as goal

abbrev pub decreases-product : goal.decreases-product
decreases-product l = length l.y.now
