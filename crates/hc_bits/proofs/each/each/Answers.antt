use Rattle.std.proofs.Common.{arith}
use Rattle.hc_bits.proofs.Rows.{each_more}
use Rattle.hc_bits.proofs.each.each.Goals as goal

pub loop-i-preserved : goal.loop-i-preserved
loop-i-preserved c = rw c.in_ok-push.ensures.ok (each_more c.args.b.now c.loop-i.b c.gate.new.self c.args.kind c.args.x.now c.args.y.now c.loop-i.z c.loop-i.i c.in_ok-net.net c.loop-i.invariant (omega arith) c.requires.width c.in_ok-net.ensures.ok)
