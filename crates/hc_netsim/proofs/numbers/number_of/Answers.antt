use Rattle.std.proofs.Common.{arith}
use Rattle.hc_netsim.proofs.Passes.{bits_fit, one_bit}
use Rattle.hc_netsim.proofs.numbers.number_of.Goals as goal

pub overflow_mul-number : goal.overflow_mul-number
overflow_mul-number c =
    let fits = bits_fit c.args.bits.now c.loop-k.k c.loop-k.number c.loop-k-test.true c.requires c.loop-k.invariant in
    omega arith

pub overflow_add-number : goal.overflow_add-number
overflow_add-number c =
    let fits = bits_fit c.args.bits.now c.loop-k.k c.loop-k.number c.loop-k-test.true c.requires c.loop-k.invariant in
    let bit = one_bit _ _ c.from.ensures in
    omega arith
