-- Each form of statement by its lemma; the loops go on with what is behind the first item.
use Rattle.std.proofs.Common.{◌≡◌, [], ◌∷◌, true, false, refl, sym, ◌∙◌, rules}
use Rattle.hc_core.specs.Program.{Skip, Assign, Delay, Send, Receive, Prialt, PrialtElse, Seq, Par, If, While, DoWhile, Switch, send_case, receive_case, no_case}
use Rattle.hc_core.specs.Read.{expression, target, statement, statements, cases, arms}
use Rattle.hc_core.proofs.Listing.{uncons}
use Rattle.hc_core.proofs.Read.{reading}
use Rattle.hc_cycle.proofs.Visiting.{nothing_visited, at_place, cases_of, prialt_of, prialt_else_of, choose_of, switch_of, turn_waits, round_waits, endless_of, while_of, do_of}
use Rattle.hc_cycle.proofs.Lists.{behind_start, behind_fewer, behind_next, behind_end, branches_start, branch_fewer, branches_next, branches_end, arms_start, arm_fewer, arms_next, arms_end, case_arms_start, case_arm_fewer, case_arms_next, case_arms_end, taken_of, case_send_of, case_receive_of, first_fewer, rest_fewer, sequence_none, sequence_all}
use Rattle.hc_cycle.proofs.sets.Gather.+visit.Goals as goal

pub arms-loop-rest-init : goal.arms-loop-rest-init
arms-loop-rest-init t c = rw c.no_end-all.ensures (arms_start _ _ _)

pub arms-visit-requires : goal.arms-visit-requires
arms-visit-requires t c =
    let is = uncons c.loop-rest.rest.now c.first-item.result c.in-len1-up.len_at_least c.first-item.is in
    let less = arm_fewer _ _ _ _ _ _ c.loop-rest.rest.now _ c.first-item.result is c.loop-rest.invariant in
    search rules

pub arms-loop-rest-preserved : goal.arms-loop-rest-preserved
arms-loop-rest-preserved t c =
    let is = uncons c.loop-rest.rest.now c.first-item.result c.in-len1-up.len_at_least c.first-item.is in
    arms_next _ _ _ _ _ _ c.loop-rest.rest.now _ c.first-item.result is c.loop-rest.invariant _ _ _ _ _ _ c.in_ok-next.ensures c.either.ensures c.in_ok-all.ensures c.either-other.ensures

pub arms-returns : goal.arms-returns
arms-returns t c = arms_end _ _ _ _ _ _ c.loop-rest.rest.now c.in_default.len_below c.loop-rest.invariant

pub behind-loop-rest-init : goal.behind-loop-rest-init
behind-loop-rest-init t c = behind_start _ _ _ _

pub behind-visit-requires : goal.behind-visit-requires
behind-visit-requires t c =
    let is = uncons c.loop-rest.rest.now c.first-item.result c.in-len1-up.len_at_least c.first-item.is in
    let less = behind_fewer _ _ _ _ _ _ c.loop-rest.rest.now _ c.first-item.result is c.loop-rest.invariant in
    search rules

pub behind-loop-rest-preserved : goal.behind-loop-rest-preserved
behind-loop-rest-preserved t c =
    let is = uncons c.loop-rest.rest.now c.first-item.result c.in-len1-up.len_at_least c.first-item.is in
    behind_next _ _ _ _ _ _ c.loop-rest.rest.now _ c.first-item.result is c.loop-rest.invariant _ _ _ _ _ _ c.in_ok-inner.ensures c.in_ok-next.ensures c.in_ok-all.ensures

pub behind-returns : goal.behind-returns
behind-returns t c = behind_end _ _ _ _ _ _ c.loop-rest.rest.now c.in_default.len_below c.loop-rest.invariant

pub case_arm-returns-in-Send : goal.case_arm-returns-in-Send
case_arm-returns-in-Send t c =
    let is : cases (c.args.case.now ∷ []) ≡ send_case c.in-Send.chan (expression c.in-Send.value) (statement c.in-Send.arm) no_case = search (rules, reading) in
    case_send_of _ _ _ _ _ _ _ is c.taken.ensures

pub case_arm-returns-in-Recv : goal.case_arm-returns-in-Recv
case_arm-returns-in-Recv t c =
    let is : cases (c.args.case.now ∷ []) ≡ receive_case c.in-Recv.chan (target c.in-Recv.target) (statement c.in-Recv.arm) no_case = search (rules, reading) in
    case_receive_of _ _ _ _ _ _ _ is c.taken-in-Recv.ensures

pub taken-returns : goal.taken-returns
taken-returns t c = taken_of _ _ _ _ _ _ c.in_ok-ends.ensures c.in_ok-finish.ensures

pub case_arms-loop-rest-init : goal.case_arms-loop-rest-init
case_arms-loop-rest-init t c = case_arms_start _ _

pub case_arms-case_arm-requires : goal.case_arms-case_arm-requires
case_arms-case_arm-requires t c =
    let is = uncons c.loop-rest.rest.now c.first-item.result c.in-len1-up.len_at_least c.first-item.is in
    let less = case_arm_fewer _ _ _ _ c.loop-rest.rest.now _ c.first-item.result is c.loop-rest.invariant in
    search rules

pub case_arms-loop-rest-preserved : goal.case_arms-loop-rest-preserved
case_arms-loop-rest-preserved t c =
    let is = uncons c.loop-rest.rest.now c.first-item.result c.in-len1-up.len_at_least c.first-item.is in
    case_arms_next _ _ _ _ c.loop-rest.rest.now _ c.first-item.result is c.loop-rest.invariant _ _ _ _ c.in_ok-finish.ensures c.in_ok-all.ensures

pub case_arms-returns : goal.case_arms-returns
case_arms-returns t c = case_arms_end _ _ _ _ c.loop-rest.rest.now c.in_default.len_below c.loop-rest.invariant

pub cases-returns : goal.cases-returns
cases-returns t c = cases_of _ _ _ _ _ _ _ c.in_ok-partners.ensures c.in_ok-finish.ensures

pub choose-returns : goal.choose-returns
choose-returns t c place = choose_of _ _ _ _ _ _ _ _ _ _ _ _ _ _ _ _ _ _ place c.in_ok-read.ensures c.in_ok-inner.ensures c.in_ok-yes.ensures c.in_ok-no.ensures c.either.ensures c.in_ok-both.ensures c.in_ok-ends.ensures

pub do_loop-fill-requires : goal.do_loop-fill-requires
do_loop-fill-requires t c = round_waits _ _ _ _ _ _ _ _ _ _ _ _ c.in_ok-at.ensures c.in_ok-inner.ensures c.in_ok-ends.ensures c.in_ok-read.ensures

pub do_loop-returns : goal.do_loop-returns
do_loop-returns t c place = do_of _ _ _ _ _ _ _ _ _ _ _ _ _ c.in_ok-at.ensures c.in_ok-inner.ensures c.in_ok-ends.ensures c.in_ok-read.ensures c.fill.ensures place

pub parallel-loop-rest-init : goal.parallel-loop-rest-init
parallel-loop-rest-init t c = rw c.no_end-all.ensures (branches_start _ _ _)

pub parallel-visit-requires : goal.parallel-visit-requires
parallel-visit-requires t c =
    let is = uncons c.loop-rest.rest.now c.first-item.result c.in-len1-up.len_at_least c.first-item.is in
    let less = branch_fewer _ _ _ _ _ c.loop-rest.rest.now _ c.first-item.result is c.loop-rest.invariant in
    search rules

pub parallel-loop-rest-preserved : goal.parallel-loop-rest-preserved
parallel-loop-rest-preserved t c =
    let is = uncons c.loop-rest.rest.now c.first-item.result c.in-len1-up.len_at_least c.first-item.is in
    branches_next _ _ _ _ _ c.loop-rest.rest.now _ c.first-item.result is c.loop-rest.invariant _ _ _ _ _ c.in_ok-next.ensures c.both.ensures c.in_ok-all.ensures

pub parallel-returns : goal.parallel-returns
parallel-returns t c place = branches_end _ _ _ _ _ _ c.loop-rest.rest.now place c.in_default.len_below c.loop-rest.invariant c.where_it.ensures.yes c.where_it.ensures.no

pub prialt-returns : goal.prialt-returns
prialt-returns t c place = prialt_of _ _ _ _ _ place c.in_ok-all.ensures

pub prialt_else-returns : goal.prialt_else-returns
prialt_else-returns t c place = prialt_else_of _ _ _ _ _ _ _ _ _ _ _ _ _ _ place c.in_ok-all.ensures c.in_ok-inner.ensures c.in_ok-ends.ensures c.in_ok-decided.ensures c.in_ok-finish.ensures

pub sequence-visit-requires : goal.sequence-visit-requires
sequence-visit-requires t c =
    let is = uncons c.args.parts.now c.first-item.result c.in-len1-up.len_at_least c.first-item.is in
    let less = first_fewer c.args.parts.now _ c.first-item.result is in
    search rules

pub sequence-behind-requires : goal.sequence-behind-requires
sequence-behind-requires t c =
    let is = uncons c.args.parts.now c.first-item.result c.in-len1-up.len_at_least c.first-item.is in
    let less = rest_fewer c.args.parts.now _ c.first-item.result is in
    search rules

pub sequence-returns-in-empty : goal.sequence-returns-in-empty
sequence-returns-in-empty t c place = rw c.no_end.ensures (sequence_none _ _ _ place c.in-empty.len_below)

pub sequence-returns-in_ok-ends-in-len1-up : goal.sequence-returns-in_ok-ends-in-len1-up
sequence-returns-in_ok-ends-in-len1-up t c =
    let is = uncons c.args.parts.now c.first-item.result c.in-len1-up.len_at_least c.first-item.is in
    sequence_all _ _ _ _ _ _ c.args.parts.now c.first-item.result _ is c.in_ok-ends-in-len1-up.ensures c.behind.ensures

pub switch-returns : goal.switch-returns
switch-returns t c place = switch_of _ _ _ _ _ _ _ _ _ _ _ _ _ place c.in_ok-read.ensures c.in_ok-inner.ensures c.in_ok-all.ensures c.either.ensures c.in_ok-ends.ensures

pub while_loop-fill-requires : goal.while_loop-fill-requires
while_loop-fill-requires t c = turn_waits _ _ _ _ _ _ _ _ _ _ _ c.in_ok-at.ensures c.in_ok-read.ensures c.in_ok-inner.ensures c.in_ok-ends.ensures

pub while_loop-returns-then-always_holds : goal.while_loop-returns-then-always_holds
while_loop-returns-then-always_holds t c place =
    rw c.no_end.ensures (endless_of _ _ _ _ _ _ _ _ _ _ _ _ _ c.in_ok-at.ensures c.in_ok-read.ensures c.in_ok-inner.ensures c.in_ok-ends.ensures c.fill.ensures place
    (sym c.if-always_holds.true ∙ c.always_holds.ensures))

pub while_loop-returns : goal.while_loop-returns
while_loop-returns t c place =
    while_of _ _ _ _ _ _ _ _ _ _ _ _ _ c.in_ok-at.ensures c.in_ok-read.ensures c.in_ok-inner.ensures c.in_ok-ends.ensures c.fill.ensures _ _ place
    (sym c.if-always_holds.false ∙ c.always_holds.ensures) c.in_ok-finish.ensures

pub visit-returns-in-Skip : goal.visit-returns-in-Skip
visit-returns-in-Skip t c =
    let is : statement c.args.s.now ≡ Skip = search (rules, reading) in
    rw (is, c.no_end.ensures) (nothing_visited _ _ Skip true (λ xs. refl) refl refl refl)

pub visit-returns-in-Delay : goal.visit-returns-in-Delay
visit-returns-in-Delay t c =
    let is : statement c.args.s.now ≡ Delay c.in-Delay.place = search (rules, reading) in
    rw (is, c.no_end-in-Delay.ensures) (nothing_visited _ _ (Delay c.in-Delay.place) false (λ xs. refl) refl refl refl)

pub visit-returns-in-Assign : goal.visit-returns-in-Assign
visit-returns-in-Assign t c =
    let is : statement c.args.s.now ≡ Assign c.in-Assign.place (target c.in-Assign.target) (expression c.in-Assign.value) = search (rules, reading) in
    rw is (at_place _ _ _ _ (λ at. Assign at (target c.in-Assign.target) (expression c.in-Assign.value)) c.in-Assign.place c.assign.ensures)

pub visit-returns-in-Send : goal.visit-returns-in-Send
visit-returns-in-Send t c =
    let is : statement c.args.s.now ≡ Send c.in-Send.place c.in-Send.chan (expression c.in-Send.value) = search (rules, reading) in
    rw is (at_place _ _ _ _ (λ at. Send at c.in-Send.chan (expression c.in-Send.value)) c.in-Send.place c.send.ensures)

pub visit-returns-in-Recv : goal.visit-returns-in-Recv
visit-returns-in-Recv t c =
    let is : statement c.args.s.now ≡ Receive c.in-Recv.place c.in-Recv.chan (target c.in-Recv.target) = search (rules, reading) in
    rw is (at_place _ _ _ _ (λ at. Receive at c.in-Recv.chan (target c.in-Recv.target)) c.in-Recv.place c.receive.ensures)

pub visit-returns-in-None : goal.visit-returns-in-None
visit-returns-in-None t c =
    let is : statement c.args.s.now ≡ Prialt c.in-Prialt.place (cases c.as_slice.result.now) = search (rules, reading) in
    rw is (at_place _ _ _ _ (λ at. Prialt at (cases c.as_slice.result.now)) c.in-Prialt.place c.prialt.ensures)

pub visit-returns-in-Some : goal.visit-returns-in-Some
visit-returns-in-Some t c =
    let is : statement c.args.s.now ≡ PrialtElse c.in-Prialt.place (cases c.as_slice-in-Some.result.now) (statement c.get.result.now) = search (rules, reading) in
    rw is (at_place _ _ _ _ (λ at. PrialtElse at (cases c.as_slice-in-Some.result.now) (statement c.get.result.now)) c.in-Prialt.place c.prialt_else.ensures)

pub visit-returns-in-Seq : goal.visit-returns-in-Seq
visit-returns-in-Seq t c =
    let is : statement c.args.s.now ≡ Seq c.in-Seq.place (statements c.as_slice-in-Seq.result.now) = search (rules, reading) in
    rw is (at_place _ _ _ _ (λ at. Seq at (statements c.as_slice-in-Seq.result.now)) c.in-Seq.place c.sequence.ensures)

pub visit-returns-in-Par : goal.visit-returns-in-Par
visit-returns-in-Par t c =
    let is : statement c.args.s.now ≡ Par c.in-Par.place (statements c.as_slice-in-Par.result.now) = search (rules, reading) in
    rw is (at_place _ _ _ _ (λ at. Par at (statements c.as_slice-in-Par.result.now)) c.in-Par.place c.parallel.ensures)

pub visit-returns-in-If : goal.visit-returns-in-If
visit-returns-in-If t c =
    let is : statement c.args.s.now ≡ If c.in-If.place (expression c.in-If.condition) (statement c.get-in-If.result.now) (statement c.get-in-If-2.result.now) = search (rules, reading) in
    rw is (at_place _ _ _ _ (λ at. If at (expression c.in-If.condition) (statement c.get-in-If.result.now) (statement c.get-in-If-2.result.now)) c.in-If.place c.choose.ensures)

pub visit-returns-in-While : goal.visit-returns-in-While
visit-returns-in-While t c =
    let is : statement c.args.s.now ≡ While c.in-While.place (expression c.in-While.condition) (statement c.get-in-While.result.now) = search (rules, reading) in
    rw is (at_place _ _ _ _ (λ at. While at (expression c.in-While.condition) (statement c.get-in-While.result.now)) c.in-While.place c.while_loop.ensures)

pub visit-returns-in-DoWhile : goal.visit-returns-in-DoWhile
visit-returns-in-DoWhile t c =
    let is : statement c.args.s.now ≡ DoWhile c.in-DoWhile.place (statement c.get-in-DoWhile.result.now) (expression c.in-DoWhile.condition) = search (rules, reading) in
    rw is (at_place _ _ _ _ (λ at. DoWhile at (statement c.get-in-DoWhile.result.now) (expression c.in-DoWhile.condition)) c.in-DoWhile.place c.do_loop.ensures)

pub visit-returns-in-Switch : goal.visit-returns-in-Switch
visit-returns-in-Switch t c =
    let is : statement c.args.s.now ≡ Switch c.in-Switch.place (expression c.in-Switch.selector) (arms c.as_slice-in-Switch.result.now) = search (rules, reading) in
    rw is (at_place _ _ _ _ (λ at. Switch at (expression c.in-Switch.selector) (arms c.as_slice-in-Switch.result.now)) c.in-Switch.place c.switch.ensures)
