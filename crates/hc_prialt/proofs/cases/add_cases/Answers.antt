-- One case more.
use Rattle.std.proofs.Common.{ap, refl, arith}
use Rattle.std.specs.Prelude.{slice_index}
use Rattle.hc_token.specs.Part.{keeps_part, part_room}
use Rattle.hc_prialt.proofs.Choosing.{cases_none, cases_more}
use Rattle.hc_prialt.proofs.cases.add_cases.Goals as goal

pub loop-i-init : goal.loop-i-init
loop-i-init c = cases_none c.args.first c.args.active c.args.ready.now _ _ c.args.b.now c.new-taken.ensures c.new-arm_starts.ensures c.requires.active

pub add_case-requires-clause-ready : goal.add_case-requires-clause-ready
add_case-requires-clause-ready c =
    let within = rw c.len-i-end.ensures at c.loop-i-test.true in
    let at = c.requires.ready c.loop-i.i 0 within in
    let same = ap (λ l. slice_index l c.loop-i.i) c.as_slice.ensures in
    let longer = (keeps_part c.loop-i.invariant.adds).longer in
    omega (arith, at, same, longer)

pub add_case-requires-clause-room : goal.add_case-requires-clause-room
add_case-requires-clause-room c =
    let within = rw c.len-i-end.ensures at c.loop-i-test.true in
    let size = part_room c.loop-i.invariant.adds in
    let room = c.requires.room in
    omega (arith, within, size, room)

pub loop-i-preserved : goal.loop-i-preserved
loop-i-preserved c =
    cases_more c.args.first _ c.args.active c.loop-i.i c.loop-i.free c.args.ready.now c.loop-i.taken _ c.loop-i.arm_starts _ c.in_ok-case.case c.args.b.now c.loop-i.b c.add_case.new.b
    _ c.as_slice.ensures (rw c.len-i-end.ensures at c.loop-i-test.true) refl c.in_ok-push.ensures.ok c.in_ok-push-2.ensures.ok c.loop-i.invariant c.in_ok-case.ensures
