use mir.Val.{bool_byte}
use Rattle.std.proofs.Common.{◌≤◌, ◌-◌, ◌∙◌, ap, arith, length, drop, get_or}
use Rattle.std.specs.Prelude.{map}
use Rattle.hc_net.specs.Bits.{number}
use Rattle.hc_net.specs.Run.{net_bit}
use Rattle.hc_netsim.proofs.Passes.{one_bit}
use Rattle.hc_netsim.proofs.Words.{words_few, outside_stays, index_more}
use Rattle.hc_netsim.proofs.memory.index_on.Goals as goal

pub overflow_mul-index : goal.overflow_mul-index
overflow_mul-index c =
    let few = words_few c.args.ram.now.words c.args.ram.now.width c.requires.sizes.least c.requires.sizes.few in
    let inside = c.loop-k.invariant.inside in
    omega arith

pub overflow_add-index : goal.overflow_add-index
overflow_add-index c =
    let few = words_few c.args.ram.now.words c.args.ram.now.width c.requires.sizes.least c.requires.sizes.few in
    let inside = c.loop-k.invariant.inside in
    let bit = one_bit _ _ c.from.ensures in
    omega arith

pub returns-then-index-ram : goal.returns-then-index-ram
returns-then-index-ram c =
    let v = net_bit c.args.values.now in
    let k = c.loop-k.k in
    let addr = c.as_slice-addr.ensures in
    let nets = c.args.ram.now.addr in
    let within : k ≤ length nets = omega (arith, c.loop-k.auto.k, ap length addr) in
    let index = index_more v nets k c.loop-k.index c.from.result c.loop-k-test.true within (c.loop-k.invariant.index ∙ ap (λ l. number (map v (drop k l))) addr) (c.from.ensures ∙ ap (λ l. bool_byte (v (get_or l (k - 1) 0))) addr) in
    outside_stays v nets (k - 1) _ c.args.ram.now.words index c.if-index-ram.true
