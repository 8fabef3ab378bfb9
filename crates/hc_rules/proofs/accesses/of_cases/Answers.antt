-- The loop goes on with the cases behind the first one.
use Rattle.hc_core.proofs.Listing.{uncons}
use Rattle.hc_rules.proofs.Adding.{adds_next, adds_end, accesses_of, no_accesses}
use Rattle.hc_rules.proofs.accesses.of_cases.Goals as goal

pub loop-rest-preserved : goal.loop-rest-preserved
loop-rest-preserved c =
    let is = uncons c.loop-rest.rest.now c.first-item.result c.in-len1-up.len_at_least c.first-item.is in
    adds_next _ _ _ _ _ _ _ c.loop-rest.invariant (accesses_of c.loop-rest.rest.now _ c.first-item.result is) c.in_ok-of_case.ensures

pub returns : goal.returns
returns c = adds_end _ _ _ _ c.loop-rest.invariant (no_accesses c.loop-rest.rest.now c.in_default.len_below)
