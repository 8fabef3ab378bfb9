-- The loop goes on with the objects behind the first one.
use Rattle.std.proofs.Common.{sym, ◌∙◌}
use Rattle.hc_core.proofs.Listing.{uncons}
use Rattle.hc_rules.proofs.Firsts.{next_output}
use Rattle.hc_rules.proofs.objects.first_output.Goals as goal

pub loop-rest-preserved : goal.loop-rest-preserved
loop-rest-preserved c =
    let is = uncons c.loop-rest.rest.now c.first-item.result c.in-len1-up.len_at_least c.first-item.is in
    c.loop-rest.invariant ∙ next_output c.loop-rest.rest.now _ c.first-item.result is (sym c.in-Ok-None.field-0-is ∙ c.in-Ok-None.ensures)
