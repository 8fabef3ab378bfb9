use Rattle.std.proofs.Common.{refl, arith}
use Rattle.hc_net.specs.MadeLemmas.{all_there}
use Rattle.hc_token.specs.Growing.{put_size}
use Rattle.hc_token.specs.Part.{part_room}
use Rattle.hc_prialt.proofs.Picked.{picked_waiting, is_unfed, free_low}
use Rattle.hc_prialt.proofs.picking.pick_or_wait.Goals as goal

pub add_cases-requires-clause-ready : goal.add_cases-requires-clause-ready
add_cases-requires-clause-ready c =
    let first = put_size _ c.args.b.now c.in_ok-waits.ensures.ok in
    let second = put_size _ c.flop.new.self c.in_ok-active.ensures.ok in
    all_there c.args.ready.now (omega (arith, first, second)) c.requires.ready

pub gate-requires-2-clause-room : goal.gate-requires-2-clause-room
gate-requires-2-clause-room c =
    let first = put_size _ c.args.b.now c.in_ok-waits.ensures.ok in
    let second = put_size _ c.flop.new.self c.in_ok-active.ensures.ok in
    let size = part_room c.in_ok-cases.ensures.adds in
    let room = c.requires.room in
    omega (arith, first, second, size, room)

pub feed-requires-clause-flop : goal.feed-requires-clause-flop
feed-requires-clause-flop c =
    is_unfed c.args.token _ c.args.start c.in_ok-waits.waits c.in_ok-active.active _ c.in_ok-never.never c.args.ready.now _ _
    c.args.b.now c.flop.new.self c.gate.new.self c.add_cases.new.b c.gate-2.new.self
    c.in_ok-waits.ensures.ok c.in_ok-active.ensures.ok c.in_ok-cases.ensures c.in_ok-never.ensures.ok

pub feed-requires-clause-net : goal.feed-requires-clause-net
feed-requires-clause-net c =
    free_low c.args.token _ c.args.start c.in_ok-waits.waits c.in_ok-active.active _ c.in_ok-never.never c.args.ready.now _ _
    c.args.b.now c.flop.new.self c.gate.new.self c.add_cases.new.b c.gate-2.new.self
    c.in_ok-waits.ensures.ok c.in_ok-active.ensures.ok c.in_ok-cases.ensures c.in_ok-never.ensures.ok

pub returns : goal.returns
returns c =
    picked_waiting c.args.token _ c.args.start c.in_ok-waits.waits c.in_ok-active.active _ c.in_ok-never.never c.args.ready.now _ _
    c.args.b.now c.flop.new.self c.gate.new.self c.add_cases.new.b c.gate-2.new.self c.feed.new.self
    refl c.in_ok-waits.ensures.ok c.in_ok-active.ensures.ok c.in_ok-cases.ensures c.in_ok-never.ensures.ok c.feed.ensures.fed c.feed.ensures.earlier
    c.in_ok-waits.ensures.value c.feed.ensures.value
