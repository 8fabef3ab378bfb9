use Rattle.std.proofs.Common.{◌∙◌, ap, length, refl, arith}
use Rattle.std.proofs.lemmas.List.{length_push}
use Rattle.hc_value.proofs.Elements.{enabled_none, enabled_more, enabled_index}
use Rattle.hc_value.proofs.element.enabled_bits.Goals as goal

pub loop-i-init : goal.loop-i-init
loop-i-init c = enabled_none c.args.b.now c.args.enables.now c.args.nets.now c.args.width c.args.place c.new-terms.result c.new-terms.ensures

pub loop-i-preserved : goal.loop-i-preserved
loop-i-preserved c = record {
  width = ap length c.in_ok-push.ensures.ok ∙ length_push c.loop-i.terms c.in_ok-term.term ∙ omega (arith, c.loop-i.invariant.width);
  made = enabled_more c.args.b.now c.loop-i.b c.gate.new.self c.args.enables.now c.args.nets.now c.loop-i.terms _ c.args.width c.args.place c.loop-i.i _ _ c.in_ok-term.term
      (omega arith) (enabled_index (length c.args.enables.now) c.args.width c.args.place c.loop-i.i _ (omega arith) (omega arith) c.requires.count) refl refl c.in_ok-push.ensures.ok c.loop-i.invariant.made c.in_ok-term.ensures.ok;
}
