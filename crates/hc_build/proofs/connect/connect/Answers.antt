-- One object more: its flip-flops are fed, or its placeholders driven.
use Rattle.std.proofs.Common.{◌+◌, length, ap, sym, ◌∙◌, subst, refl, arith}
use Rattle.hc_core.specs.Typed.{kinds_of}
use Rattle.hc_core.specs.declared.object.Object.{Object}
use Rattle.hc_net.specs.Circuit.{Circuit}
use Rattle.hc_build.specs.Sources.{is_placeholder}
use Rattle.hc_build.proofs.Connecting.{ConnectsFirst, can_read, can_feed, can_drive, connects_none, connects_more, objects_there, kind_item, nets_item, source_item}
use Rattle.hc_build.proofs.connect.connect.Goals as goal
use Rattle.hc_build.proofs.connect.connect.Goals.{then-is_output, else-is_output}

pub bounds-as_slice-k : goal.bounds-as_slice-k
bounds-as_slice-k c =
    objects_there _ _ _ _ c.args.core.now.objects _ _ c.requires refl (let same = ap length c.as_slice-objects.ensures in let inside = c.loop-k-test.true in omega (arith, same, inside)) c.as_slice.ensures

pub drive_all-requires-clause-can : goal.drive_all-requires-clause-can
drive_all-requires-clause-can c =
    let there = kind_item _ _ _ c.index-objects-k.result c.as_slice-objects.ensures c.loop-k-test.true c.index-objects-k.is in
    can_read _ _ _ _ _ _ _ _ _ c.requires c.loop-k.invariant there (nets_item _ _ _ _ _ _ _ _ c.requires there c.as_slice.ensures c.index-as_slice-k.is)
    (source_item _ _ _ _ _ _ _ _ c.requires there c.as_slice-in-loop-k.ensures c.index-as_slice-k-in-loop-k.is)

pub drive_all-requires-clause-undriven : goal.drive_all-requires-clause-undriven
drive_all-requires-clause-undriven c =
    let there = kind_item _ _ _ c.index-objects-k.result c.as_slice-objects.ensures c.loop-k-test.true c.index-objects-k.is in
    can_drive _ _ _ _ _ _ _ _ _ c.requires c.loop-k.invariant there (nets_item _ _ _ _ _ _ _ _ c.requires there c.as_slice.ensures c.index-as_slice-k.is)
    (source_item _ _ _ _ _ _ _ _ c.requires there c.as_slice-in-loop-k.ensures c.index-as_slice-k-in-loop-k.is) (ap (λ (o : Object). is_placeholder o.kind) c.index-objects-k.is ∙ sym c.is_output.ensures ∙ c.if-is_output.true)

pub feed_all-requires-clause-can : goal.feed_all-requires-clause-can
feed_all-requires-clause-can c =
    let there = kind_item _ _ _ c.index-objects-k.result c.as_slice-objects.ensures c.loop-k-test.true c.index-objects-k.is in
    can_read _ _ _ _ _ _ _ _ _ c.requires c.loop-k.invariant there (nets_item _ _ _ _ _ _ _ _ c.requires there c.as_slice.ensures c.index-as_slice-k.is)
    (source_item _ _ _ _ _ _ _ _ c.requires there c.as_slice-in-loop-k.ensures c.index-as_slice-k-in-loop-k.is)

pub feed_all-requires-clause-unfed : goal.feed_all-requires-clause-unfed
feed_all-requires-clause-unfed c =
    let there = kind_item _ _ _ c.index-objects-k.result c.as_slice-objects.ensures c.loop-k-test.true c.index-objects-k.is in
    can_feed _ _ _ _ _ _ _ _ _ c.requires c.loop-k.invariant there (nets_item _ _ _ _ _ _ _ _ c.requires there c.as_slice.ensures c.index-as_slice-k.is)
    (source_item _ _ _ _ _ _ _ _ c.requires there c.as_slice-in-loop-k.ensures c.index-as_slice-k-in-loop-k.is) (ap (λ (o : Object). is_placeholder o.kind) c.index-objects-k.is ∙ sym c.is_output.ensures ∙ c.if-is_output.false)

pub loop-k-init : goal.loop-k-init
loop-k-init c = connects_none _ _ _ _

pub loop-k-preserved : goal.loop-k-preserved
loop-k-preserved c =
    let there = kind_item _ _ _ c.index-objects-k.result c.as_slice-objects.ensures c.loop-k-test.true c.index-objects-k.is in
    let nets = nets_item _ _ _ _ _ _ _ _ c.requires there c.as_slice.ensures c.index-as_slice-k.is in
    let source = source_item _ _ _ _ _ _ _ _ c.requires there c.as_slice-in-loop-k.ensures c.index-as_slice-k-in-loop-k.is in
    elim c.if-is_output.branch [
      | then-is_output w ↦
          subst (λ (x : Circuit). ConnectsFirst (c.loop-k.k + 1) (kinds_of c.args.core.now.objects) c.args.at.now c.args.sources.now c.args.b.now x) (sym w.b-is)
          (connects_more _ _ _ _ _ _ _ _ _ _ c.requires c.loop-k.invariant there nets source w.drive_all.ensures)
      | else-is_output w ↦
          subst (λ (x : Circuit). ConnectsFirst (c.loop-k.k + 1) (kinds_of c.args.core.now.objects) c.args.at.now c.args.sources.now c.args.b.now x) (sym w.b-is)
          (connects_more _ _ _ _ _ _ _ _ _ _ c.requires c.loop-k.invariant there nets source w.feed_all.ensures)
    ]
