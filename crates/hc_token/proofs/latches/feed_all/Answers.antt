-- One latch more.
use Rattle.std.proofs.Common.{ap, arith}
use Rattle.std.specs.Prelude.{slice_index}
use Rattle.hc_token.proofs.LatchNodes.{feeds_none, next_unfed, feeds_more, feeds_all}
use Rattle.hc_token.proofs.latches.feed_all.Goals as goal

pub loop-i-init : goal.loop-i-init
loop-i-init c = feeds_none c.args.latches.now c.args.sources.now c.args.b.now

pub feed-requires-clause-flop : goal.feed-requires-clause-flop
feed-requires-clause-flop c = next_unfed _ _ _ _ _ _ c.requires.latches c.loop-i.invariant (rw c.len-i-end.ensures at c.loop-i-test.true) (ap (λ l. slice_index l c.loop-i.i) c.as_slice.ensures)

pub feed-requires-clause-net : goal.feed-requires-clause-net
feed-requires-clause-net c =
    let inside = rw c.len-i-end.ensures at c.loop-i-test.true in
    let at = c.requires.there c.loop-i.i 0 (omega (arith, inside, c.requires.width)) in
    let same = ap (λ l. slice_index l c.loop-i.i) c.as_slice-in-loop-i.ensures in
    let size = c.loop-i.invariant.size in
    omega (arith, at, same, size)

pub loop-i-preserved : goal.loop-i-preserved
loop-i-preserved c =
    feeds_more _ _ _ _ _ _ _ _ c.loop-i.invariant (rw c.len-i-end.ensures at c.loop-i-test.true)
    (ap (λ l. slice_index l c.loop-i.i) c.as_slice.ensures) (ap (λ l. slice_index l c.loop-i.i) c.as_slice-in-loop-i.ensures)
    c.feed.ensures.fed c.feed.ensures.earlier

pub returns-clause-fed : goal.returns-clause-fed
returns-clause-fed c = feeds_all c.loop-i.i c.args.latches.now c.args.sources.now c.args.b.now c.loop-i.b (omega arith) c.loop-i.invariant
