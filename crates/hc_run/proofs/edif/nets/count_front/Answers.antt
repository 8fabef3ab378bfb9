use Rattle.std.proofs.Common.{arith, length}
use Rattle.hc_run.proofs.Order.{IsSplit-at, same_net}
use Rattle.hc_run.proofs.edif.nets.count_front.Goals as goal

pub returns-then-reader-net-clause-split : goal.returns-then-reader-net-clause-split
returns-then-reader-net-clause-split c =
    IsSplit-at c.args.net c.loop-i.i c.args.readers.now c.requires (omega arith) c.loop-i.invariant
    (λ d within same. c.if-reader-net.true (same_net c.args.readers.now c.loop-i.i _ d within same))

pub returns-clause-split : goal.returns-clause-split
returns-clause-split c =
    IsSplit-at c.args.net (length c.args.readers.now) c.args.readers.now c.requires (omega arith)
    (λ k d h. c.loop-i.invariant k d (omega arith)) (λ d h. absurd (omega arith))
