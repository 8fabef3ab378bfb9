-- One object more, and the constants behind all.
use Rattle.std.proofs.Common.{◌≡◌, ◌+◌, length, ap, ◌∙◌, arith}
use Rattle.std.proofs.lemmas.List.{length_push}
use Rattle.hc_core.specs.Typed.{kinds_of}
use Rattle.hc_net.specs.Circuit.{Circuit}
use Rattle.hc_build.proofs.Placing.{few_objects, can_place, placed_more, placed_room}
use Rattle.hc_build.proofs.objects.place_objects.Goals as goal

pub overflow_cast-k : goal.overflow_cast-k
overflow_cast-k c =
    let few = few_objects c.args.core.now c.requires.sound in
    let same = ap length c.as_slice-objects.ensures in
    let inside = c.loop-k-test.true in
    omega (arith, few, same, inside)

pub place-requires : goal.place-requires
place-requires c =
    (kinds_of c.args.core.now.objects, can_place c.args.core.now _ _ _ _ _ c.requires.sound c.requires.light c.as_slice-objects.ensures c.loop-k.invariant c.loop-k-test.true c.index-objects-k.is)

pub loop-k-preserved : goal.loop-k-preserved
loop-k-preserved c =
    placed_more _ _ _ _ _ _ _ _ _ c.loop-k.invariant c.loop-k-test.true c.index-objects-k.is c.in_ok-nets.ensures c.in-Ok.ensures.ok

pub gate-requires-clause-room : goal.gate-requires-clause-room
gate-requires-clause-room c =
    let all : c.loop-k.k ≡ length c.as_slice-objects.result.now = omega (arith, c.loop-k-test.false, c.loop-k.auto.k-end) in
    let few = placed_room _ _ _ _ _ c.requires.light c.loop-k.invariant all c.as_slice-objects.ensures in
    omega (arith, few)

pub gate-requires-2-clause-room : goal.gate-requires-2-clause-room
gate-requires-2-clause-room c =
    let all : c.loop-k.k ≡ length c.as_slice-objects.result.now = omega (arith, c.loop-k-test.false, c.loop-k.auto.k-end) in
    let few = placed_room _ _ _ _ _ c.requires.light c.loop-k.invariant all c.as_slice-objects.ensures in
    let size : length c.gate.new.self.nodes ≡ length c.loop-k.b.nodes + 1 =
    ap (λ (x : Circuit). length x.nodes) c.in_ok-zero.ensures.ok.1 ∙ length_push c.loop-k.b.nodes _ in
    omega (arith, few, size)
