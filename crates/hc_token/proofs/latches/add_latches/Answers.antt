use Rattle.std.proofs.Common.{arith}
use Rattle.hc_token.proofs.LatchNodes.{latches_size, nets_more, latches_more}
use Rattle.hc_token.proofs.latches.add_latches.Goals as goal

pub flop-requires : goal.flop-requires
flop-requires c =
    let size = latches_size c.args.token c.loop-i.i c.args.b.now c.loop-i.b c.loop-i.invariant.adds in
    let inside = c.loop-i-test.true in
    let room = c.requires.room in
    omega (arith, size, inside, room)

pub loop-i-preserved : goal.loop-i-preserved
loop-i-preserved c = record {
  nets = nets_more c.loop-i.latches _ c.in_ok-latch.latch c.loop-i.i c.args.b.now c.loop-i.b c.args.token c.loop-i.invariant.nets c.loop-i.invariant.adds c.in_ok-latch.ensures.ok.0 c.in_ok-push.ensures.ok;
  adds = latches_more c.args.token c.loop-i.i c.args.b.now c.loop-i.b c.flop.new.self c.loop-i.invariant.adds c.in_ok-latch.ensures.ok.1;
}
