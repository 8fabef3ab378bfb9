use Rattle.hc_core.proofs.Listing.{uncons}
use Rattle.hc_cycle.proofs.Lists.{offers_start, offers_next, offers_end}
use Rattle.hc_cycle.proofs.sets.Gather.offers.Goals as goal

pub loop-rest-init : goal.loop-rest-init
loop-rest-init c = offers_start _ _ _

pub loop-rest-preserved : goal.loop-rest-preserved
loop-rest-preserved c =
    let is = uncons c.loop-rest.rest.now c.first-item.result c.in-len1-up.len_at_least c.first-item.is in
    offers_next _ _ _ _ _ _ _ _ _ c.loop-rest.rest.now _ c.first-item.result is c.loop-rest.invariant c.in_ok-partner.ensures c.in_ok-all.ensures

pub returns : goal.returns
returns c = offers_end _ _ _ _ _ c.loop-rest.rest.now c.in_default.len_below c.loop-rest.invariant
