-- The loops go on with what is behind the first item, in which nothing is found.
use Rattle.std.proofs.Common.{rules, sym, ◌∙◌}
use Rattle.hc_core.proofs.Listing.{uncons}
use Rattle.hc_rules.proofs.Places.{statements_next, statements_none, cases_next, cases_found, case_fewer, cases_none, arms_next, arms_none}
use Rattle.hc_rules.proofs.walk.+walk.Goals as goal

pub in_all-loop-rest-preserved : goal.in_all-loop-rest-preserved
in_all-loop-rest-preserved g t c =
    let is = uncons c.loop-rest.rest.now c.first-item.result c.in-len1-up.len_at_least c.first-item.is in
    statements_next _ _ c.loop-rest.rest.now _ c.first-item.result is c.loop-rest.invariant (sym c.in-Ok-None.field-0-is ∙ c.in-Ok-None.ensures)

pub in_all-returns : goal.in_all-returns
in_all-returns g t c = statements_none _ _ c.loop-rest.rest.now c.in_default.len_below c.loop-rest.invariant

pub in_arms-loop-rest-preserved : goal.in_arms-loop-rest-preserved
in_arms-loop-rest-preserved g t c =
    let is = uncons c.loop-rest.rest.now c.first-item.result c.in-len1-up.len_at_least c.first-item.is in
    arms_next _ _ c.loop-rest.rest.now _ c.first-item.result is c.loop-rest.invariant (sym c.in-Ok-None.field-0-is ∙ c.in-Ok-None.ensures)

pub in_arms-returns : goal.in_arms-returns
in_arms-returns g t c = arms_none _ _ c.loop-rest.rest.now c.in_default.len_below c.loop-rest.invariant

pub in_cases-in_case-requires : goal.in_cases-in_case-requires
in_cases-in_case-requires g t c =
    let is = uncons c.loop-rest.rest.now c.first-item.result c.in-len1-up.len_at_least c.first-item.is in
    let less = case_fewer _ _ c.loop-rest.rest.now _ c.first-item.result is c.loop-rest.invariant in
    search rules

pub in_cases-returns-in-Ok-Some : goal.in_cases-returns-in-Ok-Some
in_cases-returns-in-Ok-Some g t c =
    let is = uncons c.loop-rest.rest.now c.first-item.result c.in-len1-up.len_at_least c.first-item.is in
    cases_found _ _ c.loop-rest.rest.now _ c.first-item.result is c.loop-rest.invariant _ (sym c.in-Ok-Some.field-0-is ∙ c.in-Ok-Some.ensures)

pub in_cases-loop-rest-preserved : goal.in_cases-loop-rest-preserved
in_cases-loop-rest-preserved g t c =
    let is = uncons c.loop-rest.rest.now c.first-item.result c.in-len1-up.len_at_least c.first-item.is in
    cases_next _ _ c.loop-rest.rest.now _ c.first-item.result is c.loop-rest.invariant (sym c.in-Ok-None.field-0-is ∙ c.in-Ok-None.ensures)

pub in_cases-returns : goal.in_cases-returns
in_cases-returns g t c = cases_none _ _ c.loop-rest.rest.now c.in_default.len_below c.loop-rest.invariant
