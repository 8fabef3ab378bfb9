-- The loops go on with what is behind the first item.
use Rattle.std.proofs.Common.{rules}
use Rattle.hc_core.proofs.Listing.{uncons}
use Rattle.hc_rules.proofs.Offering.{statements_next, statements_end, cases_next, case_fewer, cases_end, arms_next, arms_end}
use Rattle.hc_rules.proofs.offers.+offers.Goals as goal

pub of_all-loop-rest-preserved : goal.of_all-loop-rest-preserved
of_all-loop-rest-preserved t c =
    let is = uncons c.loop-rest.rest.now c.first-item.result c.in-len1-up.len_at_least c.first-item.is in
    statements_next _ _ _ c.loop-rest.rest.now _ c.first-item.result _ _ is c.loop-rest.invariant _ _ c.in_ok-of_statement.ensures.sends c.in_ok-of_statement.ensures.receives

pub of_all-returns-clause-sends : goal.of_all-returns-clause-sends
of_all-returns-clause-sends t c = (statements_end _ _ _ c.loop-rest.rest.now _ _ c.in_default.len_below c.loop-rest.invariant).0

pub of_all-returns-clause-receives : goal.of_all-returns-clause-receives
of_all-returns-clause-receives t c = (statements_end _ _ _ c.loop-rest.rest.now _ _ c.in_default.len_below c.loop-rest.invariant).1

pub of_arms-loop-rest-preserved : goal.of_arms-loop-rest-preserved
of_arms-loop-rest-preserved t c =
    let is = uncons c.loop-rest.rest.now c.first-item.result c.in-len1-up.len_at_least c.first-item.is in
    arms_next _ _ _ c.loop-rest.rest.now _ c.first-item.result _ _ is c.loop-rest.invariant _ _ c.in_ok-of_statement.ensures.sends c.in_ok-of_statement.ensures.receives

pub of_arms-returns-clause-sends : goal.of_arms-returns-clause-sends
of_arms-returns-clause-sends t c = (arms_end _ _ _ c.loop-rest.rest.now _ _ c.in_default.len_below c.loop-rest.invariant).0

pub of_arms-returns-clause-receives : goal.of_arms-returns-clause-receives
of_arms-returns-clause-receives t c = (arms_end _ _ _ c.loop-rest.rest.now _ _ c.in_default.len_below c.loop-rest.invariant).1

pub of_cases-of_case-requires : goal.of_cases-of_case-requires
of_cases-of_case-requires t c =
    let is = uncons c.loop-rest.rest.now c.first-item.result c.in-len1-up.len_at_least c.first-item.is in
    let less = case_fewer _ _ _ c.loop-rest.rest.now _ c.first-item.result _ _ is c.loop-rest.invariant in
    search rules

pub of_cases-loop-rest-preserved : goal.of_cases-loop-rest-preserved
of_cases-loop-rest-preserved t c =
    let is = uncons c.loop-rest.rest.now c.first-item.result c.in-len1-up.len_at_least c.first-item.is in
    cases_next _ _ _ c.loop-rest.rest.now _ c.first-item.result _ _ is c.loop-rest.invariant _ _ c.in_ok-of_case.ensures.sends c.in_ok-of_case.ensures.receives

pub of_cases-returns-clause-sends : goal.of_cases-returns-clause-sends
of_cases-returns-clause-sends t c = (cases_end _ _ _ c.loop-rest.rest.now _ _ c.in_default.len_below c.loop-rest.invariant).0

pub of_cases-returns-clause-receives : goal.of_cases-returns-clause-receives
of_cases-returns-clause-receives t c = (cases_end _ _ _ c.loop-rest.rest.now _ _ c.in_default.len_below c.loop-rest.invariant).1
