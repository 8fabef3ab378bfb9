-- The rest of the cases falls, and what was passed and the rest make up the whole.
use Rattle.std.proofs.Common.{length}
use Rattle.hc_core.specs.Read.{cases}
use Rattle.hc_cycle.proofs.Lists.{OffersLeft}
use Rattle.hc_cycle.proofs.sets.Gather.offers.Given as goal

abbrev pub invariant-loop-rest : goal.invariant-loop-rest
invariant-loop-rest l = OffersLeft l.fn.self l.self l.start l.all (cases l.list) (cases l.rest)

abbrev pub decreases-loop-rest : goal.decreases-loop-rest
decreases-loop-rest l = length l.rest
