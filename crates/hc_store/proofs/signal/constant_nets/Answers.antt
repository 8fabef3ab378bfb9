use Rattle.hc_store.proofs.Signals.{constant_more}
use Rattle.hc_store.proofs.signal.constant_nets.Goals as goal

pub loop-place-preserved : goal.loop-place-preserved
loop-place-preserved c =
    constant_more c.args.zero c.args.one c.args.bits c.loop-place.nets _ c.loop-place.place _ c.in_ok-push.ensures.ok c.loop-place.invariant c.bit_net-net.ensures
