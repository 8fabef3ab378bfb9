use Rattle.std.proofs.Common.{arith, inl, inr, ap, length, ◌∙◌, ◌≤◌, ◌⊎◌, ◌*◌, ◌^◌, sym}
use Rattle.std.proofs.lemmas.Nat.{pow-add}
use Rattle.std.proofs.lemmas.Result.{IfOk-weaker}
use Rattle.hc_bits.proofs.Stages.{down_none, down_more, down_all}
use Rattle.hc_bits.proofs.shift.shift_down.Goals as goal
use Rattle.hc_bits.proofs.shift.shift_down.Goals.{then-loop-k-test+else-distance-len, else-loop-k-test}

pub loop-k-init : goal.loop-k-init
loop-k-init c = record {
  places = omega arith;
  distance = omega arith;
  width = ap length (c.in-Ok.ensures ∙ c.as_slice.ensures);
  made = down_none c.args.fill c.args.x.now c.args.y.now c.in-Ok.shifted c.args.b.now (c.in-Ok.ensures ∙ c.as_slice.ensures) c.requires.left;
}

pub loop-k-preserved : goal.loop-k-preserved
loop-k-preserved c = record {
  places = omega arith;
  distance = ap (λ n. n * 2) c.loop-k.invariant.distance ∙ sym (pow-add 2 c.loop-k.k 1);
  width = c.in-Ok-stage.ensures.width ∙ c.loop-k.invariant.width;
  made = down_more c.args.fill c.args.x.now c.args.y.now _ c.loop-k.shifted c.in-Ok-stage.next c.loop-k.k c.loop-k.distance c.args.b.now c.loop-k.b c.stage.new.b c.as_slice-in-loop-k.ensures c.requires.width (omega arith) c.loop-k.invariant.distance c.loop-k.invariant.width c.loop-k.invariant.made c.in-Ok-stage.ensures.circuit;
}

pub returns-in-Ok-above-clause-circuit : goal.returns-in-Ok-above-clause-circuit
returns-in-Ok-above-clause-circuit c =
    let ends : (length c.args.y.now ≤ c.loop-k.k) ⊎ (length c.args.x.now ≤ 2 ^ c.loop-k.k) =
    elim c.loop-k-test.branch [ then-loop-k-test+else-distance-len w ↦ inr (omega arith) | else-loop-k-test w ↦ inl (omega arith) ] in
    IfOk-weaker c.shift_out.result _ _
    (λ z last. down_all c.args.fill c.args.x.now c.args.y.now c.in-Ok-above.high c.loop-k.shifted z c.loop-k.k c.args.b.now c.loop-k.b c.shift_out.new.b c.in-Ok-above.ensures c.requires.width c.loop-k.invariant.places ends c.loop-k.invariant.width c.loop-k.invariant.made last)
    c.shift_out.ensures.circuit
