-- Each form by its lemma; no form with a channel is built.
use Rattle.std.proofs.Common.{rules, ◌<◌, ◌≤◌}
use Rattle.hc_core.specs.Parts.{statement_parts, all_parts, arms_parts}
use Rattle.hc_core.specs.Read.{statement, statements, arms}
use Rattle.hc_control.proofs.ActionLists.{actions_Seq, actions_Par, actions_If, actions_While, actions_DoWhile, actions_Switch, actions_Skip, actions_Assign, actions_Delay, is_Assign, built_Seq, fewer_Seq, built_Par, fewer_Par, built_If, fewer_If, built_While, fewer_While, built_DoWhile, fewer_DoWhile, built_Switch, fewer_Switch, form_is, part_built, part_fewer, arm_built, arm_fewer, gathers_none, gathers_then, gathers_nothing, gathers_part, gathers_no_arm, gathers_arm}
use Rattle.hc_control.proofs.listing.+gather.Goals as goal

pub gather-add-requires : goal.gather-add-requires
gather-add-requires t c = is_Assign _ _ _ _ c.in-Assign.is

pub gather-unreachable-requires : goal.gather-unreachable-requires
gather-unreachable-requires t c = form_is _ _ c.in-Send.is c.requires

pub gather-unreachable-requires-in-Recv : goal.gather-unreachable-requires-in-Recv
gather-unreachable-requires-in-Recv t c = form_is _ _ c.in-Recv.is c.requires

pub gather-unreachable-requires-in-Prialt : goal.gather-unreachable-requires-in-Prialt
gather-unreachable-requires-in-Prialt t c = form_is _ _ c.in-Prialt.is c.requires

pub gather-gather_all-requires : goal.gather-gather_all-requires
gather-gather_all-requires t c =
    let built = built_Seq _ _ _ c.in-Seq.is c.requires in
    let less : all_parts (statements c.as_slice.result.now) < statement_parts (statement c.args.s.now) = rw c.as_slice.ensures (fewer_Seq _ _ _ c.in-Seq.is) in
    (search rules, rw c.as_slice.ensures built)

pub gather-gather_all-requires-in-Par : goal.gather-gather_all-requires-in-Par
gather-gather_all-requires-in-Par t c =
    let built = built_Par _ _ _ c.in-Par.is c.requires in
    let less : all_parts (statements c.as_slice-in-Par.result.now) < statement_parts (statement c.args.s.now) = rw c.as_slice-in-Par.ensures (fewer_Par _ _ _ c.in-Par.is) in
    (search rules, rw c.as_slice-in-Par.ensures built)

pub gather-gather-requires : goal.gather-gather-requires
gather-gather-requires t c =
    let built = (built_If _ _ _ _ _ c.in-If.is c.requires).0 in
    let less : statement_parts (statement c.get.result.now) < statement_parts (statement c.args.s.now) = rw c.get.ensures (fewer_If _ _ _ _ _ c.in-If.is).0 in
    (search rules, rw c.get.ensures built)

pub gather-gather-requires-in-If : goal.gather-gather-requires-in-If
gather-gather-requires-in-If t c =
    let built = (built_If _ _ _ _ _ c.in-If.is c.requires).1 in
    let less : statement_parts (statement c.get-in-If.result.now) < statement_parts (statement c.args.s.now) = rw c.get-in-If.ensures (fewer_If _ _ _ _ _ c.in-If.is).1 in
    (search rules, rw c.get-in-If.ensures built)

pub gather-gather-requires-in-While : goal.gather-gather-requires-in-While
gather-gather-requires-in-While t c =
    let built = built_While _ _ _ _ c.in-While.is c.requires in
    let less : statement_parts (statement c.get-in-While.result.now) < statement_parts (statement c.args.s.now) = rw c.get-in-While.ensures (fewer_While _ _ _ _ c.in-While.is) in
    (search rules, rw c.get-in-While.ensures built)

pub gather-gather-requires-in-DoWhile : goal.gather-gather-requires-in-DoWhile
gather-gather-requires-in-DoWhile t c =
    let built = built_DoWhile _ _ _ _ c.in-DoWhile.is c.requires in
    let less : statement_parts (statement c.get-in-DoWhile.result.now) < statement_parts (statement c.args.s.now) = rw c.get-in-DoWhile.ensures (fewer_DoWhile _ _ _ _ c.in-DoWhile.is) in
    (search rules, rw c.get-in-DoWhile.ensures built)

pub gather-gather_arms-requires : goal.gather-gather_arms-requires
gather-gather_arms-requires t c =
    let built = built_Switch _ _ _ _ c.in-Switch.is c.requires in
    let less : arms_parts (arms c.as_slice-in-Switch.result.now) < statement_parts (statement c.args.s.now) = rw c.as_slice-in-Switch.ensures (fewer_Switch _ _ _ _ c.in-Switch.is) in
    (search rules, rw c.as_slice-in-Switch.ensures built)

pub gather-returns-in-Skip : goal.gather-returns-in-Skip
gather-returns-in-Skip t c = rw (actions_Skip _ c.in-Skip.is) (gathers_none _)

pub gather-returns-in-Assign : goal.gather-returns-in-Assign
gather-returns-in-Assign t c = rw (actions_Assign _ _ _ _ c.in-Assign.is) c.add.ensures

pub gather-returns-in-Delay : goal.gather-returns-in-Delay
gather-returns-in-Delay t c = rw (actions_Delay _ _ c.in-Delay.is) c.add-in-Delay.ensures

pub gather-returns-in-Seq : goal.gather-returns-in-Seq
gather-returns-in-Seq t c =
    let all = c.gather_all.ensures in
    rw (actions_Seq _ _ _ c.in-Seq.is) (rw c.as_slice.ensures at all)

pub gather-returns-in-Par : goal.gather-returns-in-Par
gather-returns-in-Par t c =
    let all = c.gather_all-in-Par.ensures in
    rw (actions_Par _ _ _ c.in-Par.is) (rw c.as_slice-in-Par.ensures at all)

pub gather-returns-in_ok-gather-in-If : goal.gather-returns-in_ok-gather-in-If
gather-returns-in_ok-gather-in-If t c =
    let first = c.in_ok-gather-in-If.ensures in
    let second = c.gather-in-If.ensures in
    rw (actions_If _ _ _ _ _ c.in-If.is) (gathers_then c.gather-in-If.result _ _ _ _ _ (rw c.get.ensures at first) (rw c.get-in-If.ensures at second))

pub gather-returns-in-While : goal.gather-returns-in-While
gather-returns-in-While t c =
    let all = c.gather-in-While.ensures in
    rw (actions_While _ _ _ _ c.in-While.is) (rw c.get-in-While.ensures at all)

pub gather-returns-in-DoWhile : goal.gather-returns-in-DoWhile
gather-returns-in-DoWhile t c =
    let all = c.gather-in-DoWhile.ensures in
    rw (actions_DoWhile _ _ _ _ c.in-DoWhile.is) (rw c.get-in-DoWhile.ensures at all)

pub gather-returns-in-Switch : goal.gather-returns-in-Switch
gather-returns-in-Switch t c =
    let all = c.gather_arms.ensures in
    rw (actions_Switch _ _ _ _ c.in-Switch.is) (rw c.as_slice-in-Switch.ensures at all)

pub gather_all-gather-requires : goal.gather_all-gather-requires
gather_all-gather-requires t c =
    let inside = c.loop-part-test.true in
    let less : statement_parts (statement c.part-item.result) ≤ all_parts (statements c.args.parts.now) = part_fewer _ _ _ inside c.part-item.is in
    (search rules, part_built _ _ _ c.requires inside c.part-item.is)

pub gather_all-loop-part-init : goal.gather_all-loop-part-init
gather_all-loop-part-init t c = gathers_nothing _

pub gather_all-loop-part-preserved : goal.gather_all-loop-part-preserved
gather_all-loop-part-preserved t c = gathers_part _ _ _ _ _ _ c.loop-part-test.true c.part-item.is c.loop-part.invariant c.in_ok-gather.ensures

pub gather_arms-gather-requires : goal.gather_arms-gather-requires
gather_arms-gather-requires t c =
    let inside = c.loop-arm-test.true in
    let less : statement_parts (statement c.arm-item.result.body) ≤ arms_parts (arms c.args.list.now) = arm_fewer _ _ _ inside c.arm-item.is in
    (search rules, arm_built _ _ _ c.requires inside c.arm-item.is)

pub gather_arms-loop-arm-init : goal.gather_arms-loop-arm-init
gather_arms-loop-arm-init t c = gathers_no_arm _

pub gather_arms-loop-arm-preserved : goal.gather_arms-loop-arm-preserved
gather_arms-loop-arm-preserved t c = gathers_arm _ _ _ _ _ _ c.loop-arm-test.true c.arm-item.is c.loop-arm.invariant c.in_ok-gather.ensures
