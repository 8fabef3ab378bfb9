use Rattle.hc_channel.proofs.Standing.{never, makes}
use Rattle.hc_channel.proofs.offering.offer.Goals as goal

pub returns-clause-circuit : goal.returns-clause-circuit
returns-clause-circuit c =
    makes c.args.token c.args.start c.in_ok-pass.pass c.in_ok-waits.waits c.in_ok-active.active c.in_ok-partner.partner c.in_ok-done.done c.in_ok-still.still c.in_ok-finish.finish
    c.args.b.now c.gate.new.self c.flop.new.self c.gate-2.new.self c.wire.new.self c.gate-3.new.self c.gate-4.new.self c.feed.new.self c.flop-2.new.self c.feed-2.new.self
    c.in_ok-pass.ensures.ok c.in_ok-waits.ensures.ok c.in_ok-active.ensures.ok c.in_ok-partner.ensures.ok c.in_ok-done.ensures.ok c.in_ok-still.ensures.ok
    c.feed.ensures.fed c.feed.ensures.earlier c.in_ok-finish.ensures.ok c.feed-2.ensures.fed c.feed-2.ensures.earlier
    c.in_ok-waits.ensures.value c.in_ok-still.ensures.value c.feed.ensures.value c.in_ok-finish.ensures.value c.feed-2.ensures.value

pub returns-clause-never : goal.returns-clause-never
returns-clause-never c =
    never c.args.token c.args.start c.in_ok-pass.pass c.in_ok-waits.waits c.in_ok-active.active c.in_ok-partner.partner c.in_ok-done.done c.in_ok-still.still c.in_ok-finish.finish
    c.args.b.now c.gate.new.self c.flop.new.self c.gate-2.new.self c.wire.new.self c.gate-3.new.self c.gate-4.new.self c.feed.new.self c.flop-2.new.self c.feed-2.new.self
    c.in_ok-pass.ensures.ok c.in_ok-waits.ensures.ok c.in_ok-active.ensures.ok c.in_ok-partner.ensures.ok c.in_ok-done.ensures.ok c.in_ok-still.ensures.ok
    c.feed.ensures.fed c.feed.ensures.earlier c.in_ok-finish.ensures.ok c.feed-2.ensures.fed c.feed-2.ensures.earlier
