-- The loops go on with what is behind the first item.
use Rattle.std.proofs.Common.{rules}
use Rattle.hc_core.proofs.Listing.{uncons}
use Rattle.hc_rules.proofs.Places.{cases_next, cases_found, case_fewer, cases_none}
use Rattle.hc_rules.proofs.Clocks.{passed_start, passed_next, passed_end, arms_start, arms_next, arms_end}
use Rattle.hc_rules.proofs.loops.+clocks.Goals as goal

pub of_all-loop-rest-init : goal.of_all-loop-rest-init
of_all-loop-rest-init t c = passed_start _ _ _ c.alone-all.ensures.zero c.alone-all.ensures.endless

pub of_all-loop-rest-preserved : goal.of_all-loop-rest-preserved
of_all-loop-rest-preserved t c =
    let is = uncons c.loop-rest.rest.now c.first-item.result c.in-len1-up.len_at_least c.first-item.is in
    passed_next _ c.loop-rest.rest.now _ c.first-item.result _ _ is c.loop-rest.invariant _ _ _ _ c.of_statement-next.ensures.zero c.of_statement-next.ensures.endless
    c.both-all.ensures.zero c.both-all.ensures.endless

pub of_all-returns-clause-zero : goal.of_all-returns-clause-zero
of_all-returns-clause-zero t c = (passed_end _ c.loop-rest.rest.now _ _ c.in_default.len_below c.loop-rest.invariant).0

pub of_all-returns-clause-endless : goal.of_all-returns-clause-endless
of_all-returns-clause-endless t c = (passed_end _ c.loop-rest.rest.now _ _ c.in_default.len_below c.loop-rest.invariant).1

pub of_arms-loop-rest-init : goal.of_arms-loop-rest-init
of_arms-loop-rest-init t c = arms_start _ _ _ c.alone-all.ensures.zero c.alone-all.ensures.endless

pub of_arms-loop-rest-preserved : goal.of_arms-loop-rest-preserved
of_arms-loop-rest-preserved t c =
    let is = uncons c.loop-rest.rest.now c.first-item.result c.in-len1-up.len_at_least c.first-item.is in
    arms_next _ c.loop-rest.rest.now _ c.first-item.result _ _ is c.loop-rest.invariant _ _ _ _ c.of_statement-next.ensures.zero c.of_statement-next.ensures.endless
    c.either-all.ensures.zero c.either-all.ensures.endless

pub of_arms-returns-clause-zero : goal.of_arms-returns-clause-zero
of_arms-returns-clause-zero t c = (arms_end _ c.loop-rest.rest.now _ _ c.in_default.len_below c.loop-rest.invariant).0

pub of_arms-returns-clause-endless : goal.of_arms-returns-clause-endless
of_arms-returns-clause-endless t c = (arms_end _ c.loop-rest.rest.now _ _ c.in_default.len_below c.loop-rest.invariant).1

pub of_cases-loop-rest-preserved : goal.of_cases-loop-rest-preserved
of_cases-loop-rest-preserved t c =
    let is = uncons c.loop-rest.rest.now c.first-item.result c.in-len1-up.len_at_least c.first-item.is in
    cases_next _ _ c.loop-rest.rest.now _ c.first-item.result is c.loop-rest.invariant c.in-None.ensures

pub of_cases-returns : goal.of_cases-returns
of_cases-returns t c = cases_none _ _ c.loop-rest.rest.now c.in_default.len_below c.loop-rest.invariant

pub of_cases-of_case-requires : goal.of_cases-of_case-requires
of_cases-of_case-requires t c =
    let is = uncons c.loop-rest.rest.now c.first-item.result c.in-len1-up.len_at_least c.first-item.is in
    let less = case_fewer _ _ c.loop-rest.rest.now _ c.first-item.result is c.loop-rest.invariant in
    search rules

pub of_cases-returns-in-Some : goal.of_cases-returns-in-Some
of_cases-returns-in-Some t c =
    let is = uncons c.loop-rest.rest.now c.first-item.result c.in-len1-up.len_at_least c.first-item.is in
    cases_found _ _ c.loop-rest.rest.now _ c.first-item.result is c.loop-rest.invariant _ c.in-Some.ensures
