use Rattle.std.proofs.Common.{arith, ap, length, ◌∙◌, ◌+◌}
use Rattle.std.proofs.lemmas.List.{length_push}
use Rattle.hc_bits.proofs.Chosen.{chosen_more}
use Rattle.hc_bits.proofs.selector.choose_each.Goals as goal

pub loop-i-preserved : goal.loop-i-preserved
loop-i-preserved c = record {
  width = ap length c.in-Ok-push.ensures.ok ∙ length_push c.loop-i.bits c.in-Ok.bit ∙ ap (λ n. n + 1) c.loop-i.invariant.width;
  made = chosen_more c.args.c c.args.otherwise c.args.x.now _ c.args.y.now _ c.loop-i.bits _ c.loop-i.i c.in-Ok.bit c.args.b.now c.loop-i.b c.choose.new.b (omega arith) c.requires.width c.as_slice.ensures c.as_slice-in-loop-i.ensures c.in-Ok-push.ensures.ok c.loop-i.invariant.made c.in-Ok.ensures;
}
