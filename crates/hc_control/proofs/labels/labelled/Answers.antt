use Rattle.std.proofs.Common.{◌+◌, ap, length, ◌∙◌, arith}
use Rattle.hc_core.specs.Read.{arms as read_arms}
use Rattle.std.proofs.lemmas.List.{length_push}
use Rattle.hc_control.proofs.Selectors.{labelled_none, labelled_more, labelled_all, next_labels, next_room, arms_at, arms_past}
use Rattle.hc_control.proofs.labels.labelled.Goals as goal

pub loop-i-init : goal.loop-i-init
loop-i-init c = record {
  width = ap length c.new-nets.ensures;
  done = rw c.new-nets.ensures (labelled_none c.args.zero c.args.x.now (read_arms c.args.arms.now) c.args.b.now c.requires.labels);
}

pub among-requires-clause-values : goal.among-requires-clause-values
among-requires-clause-values c =
    next_labels c.args.zero c.args.x.now (read_arms c.args.arms.now) _ _ _ _ _ c.loop-i.nets c.args.b.now c.loop-i.b (arms_at c.args.arms.now c.loop-i.i c.index-arms-i.result c.loop-i-test.true) c.loop-i.invariant.done

pub among-requires-clause-room : goal.among-requires-clause-room
among-requires-clause-room c =
    next_room c.args.zero _ c.args.x.now (read_arms c.args.arms.now) _ _ _ _ _ c.loop-i.nets c.args.b.now c.loop-i.b (arms_at c.args.arms.now c.loop-i.i c.index-arms-i.result c.loop-i-test.true) c.loop-i.invariant.done
    c.requires.room

pub loop-i-preserved : goal.loop-i-preserved
loop-i-preserved c = record {
  width = ap length c.in_ok-push.ensures.ok ∙ length_push c.loop-i.nets c.in_ok-net.net ∙ ap (λ n. n + 1) c.loop-i.invariant.width;
  done = labelled_more c.args.zero c.args.x.now (read_arms c.args.arms.now) _ _ _ _ _ c.in_ok-net.net c.loop-i.nets _ c.args.b.now c.loop-i.b c.among.new.b
      (arms_at c.args.arms.now c.loop-i.i c.index-arms-i.result c.loop-i-test.true) c.in_ok-push.ensures.ok c.loop-i.invariant.done c.in_ok-net.ensures;
}

pub returns-clause-circuit : goal.returns-clause-circuit
returns-clause-circuit c =
    labelled_all c.args.zero c.args.x.now (read_arms c.args.arms.now) _ c.loop-i.nets c.args.b.now c.loop-i.b (arms_past c.args.arms.now c.loop-i.i (omega arith)) c.loop-i.invariant.done
