-- One flip-flop more.
use Rattle.std.proofs.Common.{◌≡◌, ◌+◌, ◌<◌, length, sym, arith, None}
use Rattle.std.proofs.lemmas.List.FromFn.{map-range_with_len_more, length-map-range_with_len}
use Rattle.hc_net.specs.Bits.{bit}
use Rattle.hc_net.specs.declared.net.FlopName.TheVariants.{Bit}
use Rattle.hc_net.specs.declared.node.Node.TheVariants.{Flop}
use Rattle.hc_build.specs.Objects.{word_flops}
use Rattle.hc_build.proofs.Adding.{adds_as, adds_push, adds_size}
use Rattle.hc_build.proofs.objects.add_word.Goals as goal

pub flop-requires : goal.flop-requires
flop-requires c =
    let size = adds_size _ _ _ _ _ c.loop-i.invariant in
    let many : length (word_flops c.args.k c.args.from c.loop-i.i c.args.bits) ≡ c.loop-i.i = length-map-range_with_len (λ i. Flop (Bit c.args.k (c.args.from + i)) (bit c.args.bits i) None) 0 c.loop-i.i in
    let inside : c.loop-i.i < c.args.width = c.loop-i-test.true in
    let room = c.requires.room in
    omega (arith, size, many, inside, room)

pub loop-i-preserved : goal.loop-i-preserved
loop-i-preserved c =
    adds_as (sym (map-range_with_len_more (λ i. Flop (Bit c.args.k (c.args.from + i)) (bit c.args.bits i) None) 0 c.loop-i.i c.loop-i.i (omega arith)))
    (adds_push _ _ _ _ _ _ _ _ _ c.loop-i.invariant c.in_ok-net.ensures.ok.0 c.in_ok-net.ensures.ok.1 c.in_ok-push.ensures.ok)
