use Rattle.std.proofs.Common.{◌<◌, ◌+◌, ◌/◌, ◌%◌, ◌^◌, ◌==◌, ap, length, ◌∙◌, subst, arith}
use Rattle.std.proofs.lemmas.List.{length_push}
use Rattle.std.proofs.lemmas.Result.{IfOk-weaker}
use Rattle.hc_control.proofs.Selectors.{same_more, same_all}
use Rattle.hc_control.proofs.labels.is.Goals as goal

pub loop-i-preserved : goal.loop-i-preserved
loop-i-preserved c = record {
  width = ap length c.in_ok-push.ensures.ok ∙ length_push c.loop-i.bits c.in_ok-bit.bit ∙ ap (λ n. n + 1) c.loop-i.invariant.width;
  made = same_more c.args.x.now _ c.loop-i.bits _ c.args.n.bits c.loop-i.i c.in_ok-bit.bit _ c.args.b.now c.loop-i.b c.as_bit.new.b (omega arith) c.as_slice.ensures c.in_ok-push.ensures.ok (ap (λ m. m / 2 ^ c.loop-i.i % 2 == 1) c.bits.ensures.bits) c.loop-i.invariant.made c.in_ok-bit.ensures;
}

pub returns : goal.returns
returns c =
    IfOk-weaker c.all.result _ _
    (λ z joined. same_all c.args.x.now c.loop-i.bits c.args.n.bits c.loop-i.i z c.args.b.now c.loop-i.b c.all.new.b (omega arith) c.loop-i.invariant.width c.requires.some (subst (λ w. c.args.n.bits < 2 ^ w) c.requires.width c.requires.number.fits) c.loop-i.invariant.made joined)
    c.all.ensures.circuit
