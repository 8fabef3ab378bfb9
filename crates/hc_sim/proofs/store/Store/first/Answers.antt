use Rattle.std.proofs.Common.{◌∙◌, ap}
use Rattle.std.specs.Prelude.{map}
use Rattle.hc_sim.proofs.Words.{one_more_object, all_objects}
use Rattle.hc_sim.proofs.store.Store.first.Goals as goal

pub loop-object-preserved : goal.loop-object-preserved
loop-object-preserved c =
    ap (map (λ v. v.items)) c.in-Ok-push.ensures.items
    ∙ one_more_object (λ v. v.items) c.args.objects.now c.loop-object.words.items c.loop-object.object-index c.object-item.result c.in_ok-first.first
    c.loop-object-test.true c.object-item.is c.in_ok-first.ensures c.loop-object.invariant

pub returns : goal.returns
returns c = all_objects (λ v. v.items) c.args.objects.now c.loop-object.words.items c.loop-object.object-index c.loop-object-test.false c.loop-object.invariant
