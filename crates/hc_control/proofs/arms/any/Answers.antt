use Rattle.std.proofs.Common.{refl, arith}
use Rattle.hc_net.specs.MadeLemmas.{Adds-room, Adds-there}
use Rattle.hc_control.proofs.Choosing.{any_none, any_more, any_all}
use Rattle.hc_control.proofs.arms.any.Goals as goal

pub loop-i-init : goal.loop-i-init
loop-i-init c = any_none c.args.zero c.args.nets.now c.args.b.now c.requires.zero

pub or-requires-clause-left : goal.or-requires-clause-left
or-requires-clause-left c = c.loop-i.invariant.there 0 0 (omega arith)

pub or-requires-clause-right : goal.or-requires-clause-right
or-requires-clause-right c = rw c.as_slice.ensures (Adds-there c.args.nets.now c.loop-i.invariant.adds c.requires.nets c.loop-i.i 0 (omega arith))

pub or-requires-clause-room : goal.or-requires-clause-room
or-requires-clause-room c = omega (arith, Adds-room c.loop-i.invariant.adds)

pub loop-i-preserved : goal.loop-i-preserved
loop-i-preserved c = any_more c.args.zero c.loop-i.some _ c.in_ok-some.some c.loop-i.i c.args.nets.now _ c.args.b.now c.loop-i.b c.or.new.b c.as_slice.ensures (omega arith) refl c.loop-i.invariant c.in_ok-some.ensures.circuit

pub returns : goal.returns
returns c = any_all c.args.zero c.loop-i.some c.loop-i.i c.args.nets.now c.args.b.now c.loop-i.b (omega arith) (omega arith) c.loop-i.invariant
