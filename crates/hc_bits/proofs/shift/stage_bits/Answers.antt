use Rattle.std.proofs.Common.{arith, ap, length, ◌∙◌, ◌+◌}
use Rattle.std.proofs.lemmas.List.{length_push}
use Rattle.hc_bits.proofs.Stages.{stage_more}
use Rattle.hc_bits.proofs.shift.stage_bits.Goals as goal

pub loop-i-preserved : goal.loop-i-preserved
loop-i-preserved c = record {
  width = ap length c.in-Ok-push.ensures.ok ∙ length_push c.loop-i.bits c.in-Ok.bit ∙ ap (λ n. n + 1) c.loop-i.invariant.width;
  made = stage_more c.args.c c.args.stays c.args.distance c.args.fill c.source-moved.result c.args.x.now _ _ c.loop-i.bits _ c.loop-i.i c.in-Ok.bit c.args.b.now c.loop-i.b c.stage_bit.new.b (omega arith) c.as_slice.ensures c.as_slice-in-loop-i.ensures c.source-moved.ensures c.in-Ok-push.ensures.ok c.loop-i.invariant.made c.in-Ok.ensures;
}
