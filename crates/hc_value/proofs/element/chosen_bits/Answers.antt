use Rattle.std.proofs.Common.{◌∙◌, ◌*◌, ap, length, arith}
use Rattle.std.proofs.lemmas.List.{length_push}
use Rattle.hc_net.specs.MadeLemmas.{Adds-room}
use Rattle.hc_value.proofs.Elements.{bits_start, bits_again, bits_room}
use Rattle.hc_value.proofs.element.chosen_bits.Goals as goal

pub loop-place-init : goal.loop-place-init
loop-place-init c = bits_start c.args.b.now c.args.enables.now c.args.nets.now c.args.width c.new-bits.result c.new-bits.ensures

pub chosen_bit-requires-clause-room : goal.chosen_bit-requires-clause-room
chosen_bit-requires-clause-room c =
    let grown = Adds-room c.loop-place.invariant.made.adds in
    let more = bits_room c.loop-place.place c.args.width (2 * length c.args.enables.now) (omega arith) in
    omega (arith, grown, more)

pub loop-place-preserved : goal.loop-place-preserved
loop-place-preserved c = record {
  width = ap length c.in_ok-push.ensures.ok ∙ length_push c.loop-place.bits c.in_ok-bit.bit ∙ omega (arith, c.loop-place.invariant.width);
  made = bits_again c.args.b.now c.loop-place.b c.chosen_bit.new.b c.args.enables.now c.args.nets.now c.loop-place.bits _ c.args.width c.loop-place.place c.in_ok-bit.bit
      c.in_ok-push.ensures.ok c.loop-place.invariant.made c.in_ok-bit.ensures;
}
