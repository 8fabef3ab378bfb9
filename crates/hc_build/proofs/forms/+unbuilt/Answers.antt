-- The loops go on with what is behind the first item, which is built.
use Rattle.hc_core.proofs.Listing.{uncons}
use Rattle.hc_build.proofs.FormsPassed.{left_next, left_none, arms_next, arms_none}
use Rattle.hc_build.proofs.forms.+unbuilt.Goals as goal

pub of_parts-loop-rest-preserved : goal.of_parts-loop-rest-preserved
of_parts-loop-rest-preserved t c =
    let is = uncons c.loop-rest.rest.now c.first-item.result c.in-len1-up.len_at_least c.first-item.is in
    left_next _ c.loop-rest.rest.now _ c.first-item.result is c.loop-rest.invariant c.in-None.ensures

pub of_parts-returns : goal.of_parts-returns
of_parts-returns t c = left_none _ c.loop-rest.rest.now c.in_default.len_below c.loop-rest.invariant

pub of_arms-loop-rest-preserved : goal.of_arms-loop-rest-preserved
of_arms-loop-rest-preserved t c =
    let is = uncons c.loop-rest.rest.now c.first-item.result c.in-len1-up.len_at_least c.first-item.is in
    arms_next _ c.loop-rest.rest.now _ c.first-item.result is c.loop-rest.invariant c.in-None.ensures

pub of_arms-returns : goal.of_arms-returns
of_arms-returns t c = arms_none _ c.loop-rest.rest.now c.in_default.len_below c.loop-rest.invariant
