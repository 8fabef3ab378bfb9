use Rattle.hc_value.proofs.Places.{constant_more}
use Rattle.hc_value.proofs.constant.constant.Goals as goal

pub loop-place-preserved : goal.loop-place-preserved
loop-place-preserved c =
    constant_more c.args.zero c.args.one c.args.n.now c.loop-place.nets _ c.loop-place.place _ _ c.in_ok-push.ensures.ok c.loop-place.invariant c.bit_net-net.ensures c.bits.ensures.bits
