-- The loop goes on with the objects behind the first one.
use Rattle.hc_core.proofs.Listing.{uncons}
use Rattle.hc_core.proofs.ObjectBounds.{objects_start, object_can, objects_next}
use Rattle.hc_core.proofs.measure.objects.objects.Goals as goal

pub loop-rest-init : goal.loop-rest-init
loop-rest-init c = objects_start _ c.requires

pub object-next-requires : goal.object-next-requires
object-next-requires c =
    let is = uncons c.loop-rest.rest.now c.first-item.result c.in-len1-up.len_at_least c.first-item.is in
    object_can _ _ c.loop-rest.rest.now _ c.first-item.result _ _ is c.loop-rest.invariant

pub loop-rest-preserved : goal.loop-rest-preserved
loop-rest-preserved c =
    let is = uncons c.loop-rest.rest.now c.first-item.result c.in-len1-up.len_at_least c.first-item.is in
    objects_next _ _ c.loop-rest.rest.now _ c.first-item.result _ _ _ _ is c.loop-rest.invariant c.object-next.ensures.weight c.object-next.ensures.flops
