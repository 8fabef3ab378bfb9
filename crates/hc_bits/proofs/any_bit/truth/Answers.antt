use Rattle.std.proofs.Common.{arith, ap, length, ◌∙◌}
use Rattle.std.proofs.lemmas.List.{length_push}
use Rattle.std.proofs.lemmas.Result.{IfOk-weaker}
use Rattle.hc_bits.proofs.Joined.{joined_none, joined_more, joined_all}
use Rattle.hc_bits.proofs.any_bit.truth.Goals as goal

pub loop-i-init : goal.loop-i-init
loop-i-init c = record {
  width = omega (arith, ap length c.in-Ok.ensures, ap length c.as_slice.ensures);
  made = joined_none c.args.b.now c.args.x.now c.in-Ok.nets c.requires.nets (c.in-Ok.ensures ∙ c.as_slice.ensures);
}

pub loop-i-preserved : goal.loop-i-preserved
loop-i-preserved c = record {
  width = ap length c.in-Ok-push.ensures.ok ∙ length_push c.loop-i.nets c.in-Ok-or.net ∙ omega (arith, c.loop-i.invariant.width);
  made = joined_more c.args.x.now c.loop-i.nets _ _ _ c.loop-i.i c.in-Ok-or.net c.args.b.now c.loop-i.b c.or.new.b (omega arith) c.as_slice-in-loop-i.ensures c.as_slice-in-loop-i-2.ensures c.in-Ok-push.ensures.ok c.loop-i.invariant.made c.in-Ok-or.ensures;
}

pub returns-clause-circuit : goal.returns-clause-circuit
returns-clause-circuit c =
    IfOk-weaker c.from_slice-2.result _ _
    (λ z is. joined_all c.args.x.now c.loop-i.nets _ z c.loop-i.i _ c.args.b.now c.loop-i.b c.loop-i.invariant.width (omega arith) c.as_slice-2.ensures (omega arith) is c.loop-i.invariant.made)
    c.from_slice-2.ensures
