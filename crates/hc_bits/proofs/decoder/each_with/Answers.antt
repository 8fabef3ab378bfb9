use Rattle.std.proofs.Common.{arith, ap, length, ◌∙◌, ◌+◌}
use Rattle.std.proofs.lemmas.List.{length_push}
use Rattle.hc_bits.proofs.Terms.{term_more}
use Rattle.hc_bits.proofs.decoder.each_with.Goals as goal

pub loop-i-preserved : goal.loop-i-preserved
loop-i-preserved c = record {
  width = ap length c.in-Ok-push.ensures.ok ∙ length_push c.loop-i.longer c.in-Ok.term ∙ ap (λ n. n + 1) c.loop-i.invariant.width;
  made = term_more c.args.bit c.args.otherwise c.low_net-low.result c.args.count c.args.terms.now _ c.loop-i.longer _ c.loop-i.i c.in-Ok.term c.args.b.now c.loop-i.b c.and.new.b (omega arith) c.requires.most c.as_slice.ensures c.low_net-low.ensures c.in-Ok-push.ensures.ok c.loop-i.invariant.made c.in-Ok.ensures;
}
