use Rattle.std.proofs.Common.{arith}
use Rattle.hc_bits.proofs.Chains.{carries_first, carries_more}
use Rattle.hc_bits.proofs.carry.carries.Goals as goal

pub loop-i-init : goal.loop-i-init
loop-i-init c = rw (c.in_ok-push.ensures.ok, c.new-c.ensures) (carries_first c.args.b.now c.args.g.now c.args.p.now c.requires.some c.requires.width c.requires.generates)

pub loop-i-preserved : goal.loop-i-preserved
loop-i-preserved c = rw c.in_ok-push-2.ensures.ok (carries_more c.args.b.now c.loop-i.b c.carry_out.new.b c.args.g.now c.args.p.now c.loop-i.c c.loop-i.carry c.in_ok-carry.carry c.loop-i.i c.loop-i.invariant (omega arith) (omega arith) c.requires.width c.in_ok-carry.ensures)
