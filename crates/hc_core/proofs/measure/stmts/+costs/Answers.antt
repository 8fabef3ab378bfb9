-- The loops keep what their lists add, and each list and part falls along the calls.
use Rattle.std.proofs.Common.{rules}
use Rattle.hc_core.proofs.Listing.{uncons, listed_start, listed_next, listed_end, cases_start, case_can, cases_next, cases_end, cases_fewer, arms_start, arms_next, arms_end}
use Rattle.hc_core.proofs.measure.stmts.+costs.Goals as goal

pub arm_list-loop-rest-init : goal.arm_list-loop-rest-init
arm_list-loop-rest-init t c = arms_start _ _ _ c.requires.light c.requires.can

pub arm_list-loop-rest-preserved : goal.arm_list-loop-rest-preserved
arm_list-loop-rest-preserved t c =
    let is = uncons c.loop-rest.rest.now c.arm-item.result c.in-len1-up.len_at_least c.arm-item.is in
    arms_next _ _ _ c.loop-rest.rest.now _ c.arm-item.result _ _ _ _ _ is c.loop-rest.invariant (search rules) c.part-next.ensures.weight c.part-next.ensures.flops

pub arm_list-returns-clause-weight : goal.arm_list-returns-clause-weight
arm_list-returns-clause-weight t c = (arms_end _ _ _ c.loop-rest.rest.now _ _ c.in_default.len_below c.loop-rest.invariant).0

pub arm_list-returns-clause-flops : goal.arm_list-returns-clause-flops
arm_list-returns-clause-flops t c = (arms_end _ _ _ c.loop-rest.rest.now _ _ c.in_default.len_below c.loop-rest.invariant).1

pub case_list-loop-rest-init : goal.case_list-loop-rest-init
case_list-loop-rest-init t c = cases_start _ _ c.requires

pub case_list-case-next-requires : goal.case_list-case-next-requires
case_list-case-next-requires t c =
    let is = uncons c.loop-rest.rest.now c.first-item.result c.in-len1-up.len_at_least c.first-item.is in
    let less = cases_fewer _ _ c.loop-rest.rest.now _ c.first-item.result _ _ is c.loop-rest.invariant in
    (search rules, case_can _ _ c.loop-rest.rest.now _ c.first-item.result _ _ is c.loop-rest.invariant)

pub case_list-loop-rest-preserved : goal.case_list-loop-rest-preserved
case_list-loop-rest-preserved t c =
    let is = uncons c.loop-rest.rest.now c.first-item.result c.in-len1-up.len_at_least c.first-item.is in
    cases_next _ _ c.loop-rest.rest.now _ c.first-item.result _ _ _ _ is c.loop-rest.invariant c.case-next.ensures.weight c.case-next.ensures.flops

pub case_list-returns-clause-weight : goal.case_list-returns-clause-weight
case_list-returns-clause-weight t c = (cases_end _ _ c.loop-rest.rest.now _ _ c.in_default.len_below c.loop-rest.invariant).0

pub case_list-returns-clause-flops : goal.case_list-returns-clause-flops
case_list-returns-clause-flops t c = (cases_end _ _ c.loop-rest.rest.now _ _ c.in_default.len_below c.loop-rest.invariant).1

pub list-loop-rest-init : goal.list-loop-rest-init
list-loop-rest-init t c = listed_start _ _ _ _ c.requires.light c.requires.few c.requires.can

pub list-loop-rest-preserved : goal.list-loop-rest-preserved
list-loop-rest-preserved t c =
    let is = uncons c.loop-rest.rest.now c.first-item.result c.in-len1-up.len_at_least c.first-item.is in
    listed_next _ _ _ _ c.loop-rest.rest.now _ c.first-item.result _ _ _ _ is c.loop-rest.invariant c.part-next.ensures.weight c.part-next.ensures.flops

pub list-returns-clause-weight : goal.list-returns-clause-weight
list-returns-clause-weight t c = (listed_end _ _ _ _ c.loop-rest.rest.now _ _ c.in_default.len_below c.loop-rest.invariant).0

pub list-returns-clause-flops : goal.list-returns-clause-flops
list-returns-clause-flops t c = (listed_end _ _ _ _ c.loop-rest.rest.now _ _ c.in_default.len_below c.loop-rest.invariant).1
