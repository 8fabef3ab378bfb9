-- The labels of the first arm are met, and then those of the arms behind it.
use Rattle.hc_core.proofs.Listing.{uncons}
use Rattle.hc_rules.proofs.Meeting.{met_again, not_met, all_met}
use Rattle.hc_rules.proofs.labels.repeats.Goals as goal

pub returns-in-Ok-true : goal.returns-in-Ok-true
returns-in-Ok-true c =
    let is = uncons c.loop-rest.rest.now c.first-item.result c.in-len1-up.len_at_least c.first-item.is in
    met_again c.args.list.now c.loop-rest.seen.keys c.note.new.seen.keys c.loop-rest.rest.now _ c.first-item.result _ c.in-Ok-true.field-0 is c.as_slice.ensures c.loop-rest.invariant c.in-Ok-true.ensures
    c.in-Ok-true.field-0-test

pub loop-rest-preserved : goal.loop-rest-preserved
loop-rest-preserved c =
    let is = uncons c.loop-rest.rest.now c.first-item.result c.in-len1-up.len_at_least c.first-item.is in
    not_met c.args.list.now c.loop-rest.seen.keys c.note.new.seen.keys c.loop-rest.rest.now _ c.first-item.result _ c.in-Ok-false.field-0 is c.as_slice.ensures c.loop-rest.invariant c.in-Ok-false.ensures
    c.in-Ok-false.field-0-test

pub returns : goal.returns
returns c = all_met c.args.list.now c.loop-rest.seen.keys c.loop-rest.rest.now c.in_default.len_below c.loop-rest.invariant
