use Rattle.std.proofs.Common.{arith, ap, length, ◌∙◌}
use Rattle.std.proofs.lemmas.List.{length_push}
use Rattle.hc_token.proofs.Joined.{joined_none, joined_more, joined_all, never_none, never_more, never_all}
use Rattle.hc_token.proofs.gates.all.Goals as goal

pub loop-i-init : goal.loop-i-init
loop-i-init c = record {
  width = omega (arith, ap length c.in_ok-nets.ensures, ap length c.as_slice.ensures);
  made = joined_none c.args.b.now c.args.x.now c.in_ok-nets.nets c.requires.nets (c.in_ok-nets.ensures ∙ c.as_slice.ensures);
  never = λ k within is. never_none _ c.args.x.now c.in_ok-nets.nets k (c.in_ok-nets.ensures ∙ c.as_slice.ensures) within is;
}

pub loop-i-preserved : goal.loop-i-preserved
loop-i-preserved c = record {
  width = ap length c.in_ok-push.ensures.ok ∙ length_push c.loop-i.nets c.in_ok-net.net ∙ omega (arith, c.loop-i.invariant.width);
  made = joined_more c.args.x.now c.loop-i.nets _ _ _ c.loop-i.i c.in_ok-net.net c.args.b.now c.loop-i.b c.and.new.b (omega arith) c.as_slice-in-loop-i.ensures c.as_slice-in-loop-i-2.ensures c.in_ok-push.ensures.ok c.loop-i.invariant.made c.in_ok-net.ensures.circuit;
  never = λ k within is. never_more c.loop-i.nets _ _ _ c.loop-i.i c.in_ok-net.net c.loop-i.b c.and.new.b (omega arith) c.as_slice-in-loop-i.ensures c.as_slice-in-loop-i-2.ensures c.in_ok-push.ensures.ok c.in_ok-net.ensures.circuit.adds c.in_ok-net.ensures.never (c.loop-i.invariant.never k within is);
}

pub returns-clause-circuit : goal.returns-clause-circuit
returns-clause-circuit c = joined_all c.args.x.now c.loop-i.nets _ c.loop-i.i _ c.args.b.now c.loop-i.b c.loop-i.invariant.width (omega arith) c.as_slice-2.ensures (omega arith) c.loop-i.invariant.made

pub returns-clause-never : goal.returns-clause-never
returns-clause-never c = λ k within is. never_all c.args.x.now c.loop-i.nets _ c.loop-i.i _ c.loop-i.b.nodes c.loop-i.invariant.width (omega arith) c.as_slice-2.ensures (omega arith) (c.loop-i.invariant.never k within is)
