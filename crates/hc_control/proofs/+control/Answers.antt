-- The forms of statements.
use Rattle.std.proofs.Common.{◌≡◌, [], ◌∷◌, Bool, true, false, not, ◌&&◌, ◌||◌, get_or, refl, sym, ap, ◌∙◌, rules, arith}
use Rattle.std.proofs.lemmas.Result.{IfOk-weaker}
use Rattle.hc_core.specs.Read.{expression, statement, arms}
use Rattle.hc_core.proofs.Listing.{uncons}
use Rattle.hc_core.proofs.Read.{read_Skip, read_Assign, read_Delay}
use Rattle.hc_core.proofs.Types.{widths_are}
use Rattle.hc_control.proofs.Acted.{skip_built, assign_built, delay_built}
use Rattle.hc_control.proofs.Branched.{each_start, branch_can, branch_fewer, each_next, each_end, all_can, can_as, each_as, join_numbers, numbers_fit, join_room, join_branches, parallel_built}
use Rattle.hc_control.proofs.ReadsNets.{has_nets}
use Rattle.hc_control.proofs.Tested.{some_bit}
use Rattle.hc_control.proofs.Ordered.{begin_can, begin_fewer, begin_ordered, step_can, step_fewer, step_room, step_ordered, end_built, none_built}
use Rattle.hc_core.specs.Typed.{kinds_of}
use Rattle.hc_net.specs.MadeLemmas.{Adds-then, Adds-there, Adds-extends, Adds-room}
use Rattle.hc_control.proofs.Adding.{both_ok, control_room}
use Rattle.hc_control.proofs.Looped.{while_can, while_built, do_can, do_built}
use Rattle.hc_control.proofs.Sided.{first_can, second_can, sided}
use Rattle.hc_control.proofs.ZeroStatements.{loops_take_clocks, do_loops_take_clocks}
use Rattle.hc_control.proofs.Taken.{can_build_body, taken_one, takes_none, takes_more, next_can, takes_defaulted, takes_otherwise, at_arm, past_arms, body_fewer, arm_room, last_room, same_net, same_other, flag_is}
use Rattle.hc_control.proofs.Switched.{Selects, can_take, switch_built, selector_room, selector_built, labels_typed, arms_length}
use Rattle.hc_control.proofs.+control.Goals as goal
use Rattle.hc_control.proofs.+control.Goals.{arms::take-then-arms-i, arms::take-else-arms-i, arms::take-then-defaulted, arms::take-else-defaulted}

pub sequence::sequence-statement-requires : goal.sequence::sequence-statement-requires
sequence::sequence-statement-requires t c =
    let is = uncons c.args.parts.now c.first-item.result c.in-len1-up.len_at_least c.first-item.is in
    let fewer = begin_fewer _ _ c.requires.0 c.args.parts.now _ c.first-item.result c.args.start c.args.b.now c.args.started.now is c.requires.1 in
    (search rules, begin_can _ _ c.requires.0 c.args.parts.now _ c.first-item.result c.args.start c.args.b.now c.args.started.now is c.requires.1)

pub sequence::sequence-loop-rest-init : goal.sequence::sequence-loop-rest-init
sequence::sequence-loop-rest-init t c =
    let is = uncons c.args.parts.now c.first-item.result c.in-len1-up.len_at_least c.first-item.is in
    begin_ordered _ _ c.requires.0 c.args.parts.now _ c.first-item.result c.args.start c.args.b.now c.args.started.now is c.requires.1
    c.statement.new.b c.statement.new.started c.in_ok-ends-in-len1-up.ends c.in_ok-ends-in-len1-up.ensures

pub sequence::sequence-statement-requires-in-len1-up-rest : goal.sequence::sequence-statement-requires-in-len1-up-rest
sequence::sequence-statement-requires-in-len1-up-rest t c =
    let is = uncons c.loop-rest.rest.now c.next-item.result c.in-len1-up-rest.len_at_least c.next-item.is in
    let fewer = step_fewer _ _ _ c.loop-rest.rest.now _ c.next-item.result c.args.start c.in_ok-start_next-in-len1-up.start_next _ c.loop-rest.b c.start_behind.new.b _ c.loop-rest.started c.loop-rest.ends is c.loop-rest.invariant c.in_ok-start_next-in-len1-up.ensures.circuit in (
      search rules,
      step_can _ _ _ c.loop-rest.rest.now _ c.next-item.result c.args.start c.in_ok-start_next-in-len1-up.start_next _ c.loop-rest.b c.start_behind.new.b _ c.loop-rest.started c.loop-rest.ends is c.loop-rest.invariant c.in_ok-start_next-in-len1-up.ensures.circuit,
    )

pub sequence::sequence-follow-requires-clause-room : goal.sequence::sequence-follow-requires-clause-room
sequence::sequence-follow-requires-clause-room t c =
    let is = uncons c.loop-rest.rest.now c.next-item.result c.in-len1-up-rest.len_at_least c.next-item.is in
    step_room _ _ _ c.loop-rest.rest.now _ c.next-item.result c.args.start c.in_ok-start_next-in-len1-up.start_next _ c.loop-rest.b c.start_behind.new.b _ c.loop-rest.started c.loop-rest.ends is c.loop-rest.invariant c.in_ok-start_next-in-len1-up.ensures.circuit
    c.statement-in-len1-up-rest.new.b c.statement-in-len1-up-rest.new.started c.in_ok-next_ends-in-len1-up.next_ends c.in_ok-next_ends-in-len1-up.ensures

pub sequence::sequence-loop-rest-preserved : goal.sequence::sequence-loop-rest-preserved
sequence::sequence-loop-rest-preserved t c =
    let is = uncons c.loop-rest.rest.now c.next-item.result c.in-len1-up-rest.len_at_least c.next-item.is in
    step_ordered _ _ _ c.loop-rest.rest.now _ c.next-item.result c.args.start c.in_ok-start_next-in-len1-up.start_next _ c.loop-rest.b c.start_behind.new.b _ c.loop-rest.started c.loop-rest.ends is c.loop-rest.invariant c.in_ok-start_next-in-len1-up.ensures.circuit
    c.statement-in-len1-up-rest.new.b c.statement-in-len1-up-rest.new.started c.in_ok-next_ends-in-len1-up.next_ends c.in_ok-next_ends-in-len1-up.ensures
    c.follow.new.b c.in_ok-ends-in-len1-up-2.ends c.in_ok-ends-in-len1-up-2.ensures.circuit c.in_ok-ends-in-len1-up-2.ensures.never

pub sequence::sequence-returns-in-empty : goal.sequence::sequence-returns-in-empty
sequence::sequence-returns-in-empty t c =
    none_built _ _ c.args.parts.now c.args.start c.args.b.now c.args.started.now c.idle.result c.in-empty.len_below c.requires.1.reads c.idle.ensures.pass c.idle.ensures.finish

pub sequence::sequence-returns-in_default : goal.sequence::sequence-returns-in_default
sequence::sequence-returns-in_default t c =
    end_built _ _ _ c.loop-rest.rest.now c.args.start _ c.loop-rest.b _ c.loop-rest.started c.loop-rest.ends c.in_default.len_below c.loop-rest.invariant

pub sides::sides-statement-requires : goal.sides::sides-statement-requires
sides::sides-statement-requires t c = (
  search rules,
  first_can (kinds_of c.args.core.now.objects) c.args.at.now c.requires.0 (expression c.args.test.now) (statement c.args.yes.now) (statement c.args.no.now) c.args.start c.args.started.now.next
      c.args.b.now c.condition.new.b c.and-2.new.b c.in_ok-c.c c.in_ok-start_yes.start_yes c.requires.1 c.in_ok-c.ensures
      (Adds-then c.in_ok-start_yes.ensures.circuit.adds (Adds-then c.in_ok-otherwise.ensures.circuit.adds c.in_ok-start_no.ensures.circuit.adds))
      (Adds-there (c.in_ok-start_yes.start_yes ∷ []) (Adds-then c.in_ok-otherwise.ensures.circuit.adds c.in_ok-start_no.ensures.circuit.adds) c.in_ok-start_yes.ensures.circuit.there 0 0 (omega arith)),
)

pub sides::sides-statement-requires-2 : goal.sides::sides-statement-requires-2
sides::sides-statement-requires-2 t c = (
  search rules,
  second_can (kinds_of c.args.core.now.objects) c.args.at.now c.requires.0 (expression c.args.test.now) (statement c.args.yes.now) (statement c.args.no.now) c.args.start
      c.args.b.now c.condition.new.b c.and-2.new.b c.statement.new.b c.in_ok-c.c c.in_ok-start_yes.start_yes c.in_ok-start_no.start_no c.args.started.now c.statement.new.started c.in_ok-ends_yes.ends_yes
      c.requires.1 c.in_ok-c.ensures
      (Adds-then c.in_ok-start_yes.ensures.circuit.adds (Adds-then c.in_ok-otherwise.ensures.circuit.adds c.in_ok-start_no.ensures.circuit.adds))
      (c.in_ok-start_no.ensures.circuit.there 0 0 (omega arith)) c.in_ok-ends_yes.ensures,
)

pub sides::sides-returns : goal.sides::sides-returns
sides::sides-returns t c =
    both_ok c.branch-alloc.result c.branch-alloc.ensures.circuit c.branch-alloc.ensures.never
    (λ ends join never place. sided (kinds_of c.args.core.now.objects) c.args.at.now place (expression c.args.test.now) (statement c.args.yes.now) (statement c.args.no.now) c.args.start
    c.args.b.now c.condition.new.b c.and.new.b c.not.new.b c.and-2.new.b c.statement.new.b c.statement-2.new.b c.branch-alloc.new.b
    c.args.started.now c.statement.new.started c.statement-2.new.started
    c.in_ok-c.c c.in_ok-start_yes.start_yes c.in_ok-otherwise.otherwise c.in_ok-start_no.start_no c.in_ok-ends_yes.ends_yes c.in_ok-ends_no.ends_no ends
    (record {
      condition = c.in_ok-c.ensures;
      begin_a = c.in_ok-start_yes.ensures.circuit;
      other = c.in_ok-otherwise.ensures.circuit;
      begin_b = c.in_ok-start_no.ensures.circuit;
      first = c.in_ok-ends_yes.ensures;
      second = c.in_ok-ends_no.ensures;
      join = join;
      never = never;
    }))

pub looping::while_loop-statement-requires : goal.looping::while_loop-statement-requires
looping::while_loop-statement-requires t c = (
  search rules,
  while_can (kinds_of c.args.core.now.objects) c.args.at.now c.requires.0 (expression c.args.test.now) (statement c.args.body.now) c.args.start c.args.started.now.next
      c.args.b.now c.condition.new.b c.wire.new.self c.and.new.b c.in_ok-c.c c.in_ok-start_body.start_body c.requires.1 c.in_ok-c.ensures c.in_ok-back.ensures.ok.1
      (Adds-then c.in_ok-round.ensures.circuit.adds c.in_ok-start_body.ensures.circuit.adds) (c.in_ok-start_body.ensures.circuit.there 0 0 (omega arith)),
)

pub looping::while_loop-returns : goal.looping::while_loop-returns
looping::while_loop-returns t c =
    both_ok c.again.result c.again.ensures.circuit c.again.ensures.never
    (λ ends join never place. while_built (kinds_of c.args.core.now.objects) c.args.at.now place (expression c.args.test.now) (statement c.args.body.now) c.args.start
    c.args.b.now c.condition.new.b c.wire.new.self c.and.new.b c.statement.new.b c.drive.new.self c.again.new.b c.args.started.now c.statement.new.started
    c.in_ok-c.c c.in_ok-back.back c.in_ok-start_body.start_body c.in_ok-ends.ends ends
    (loops_take_clocks c.requires.0 (expression c.args.test.now) (statement c.args.body.now) c.requires.1.loops)
    (record {
      condition = c.in_ok-c.ensures;
      hung = c.in_ok-back.ensures.ok;
      gates = Adds-then c.in_ok-round.ensures.circuit.adds c.in_ok-start_body.ensures.circuit.adds;
      begins = λ trace h x t. c.in_ok-start_body.ensures.circuit.value trace h x t
          ∙ ap (λ z. z && h t c.in_ok-c.c) (c.in_ok-round.ensures.circuit.value trace h (Adds-extends c.in_ok-start_body.ensures.circuit.adds trace h x) t);
      inner = c.in_ok-ends.ensures;
      driven = c.drive.ensures.driven;
      earlier = c.drive.ensures.earlier;
      comes_round = c.drive.ensures.value;
      join = join;
      never = never;
    }))

pub looping::do_while-statement-requires : goal.looping::do_while-statement-requires
looping::do_while-statement-requires t c = (
  search rules,
  do_can (kinds_of c.args.core.now.objects) c.args.at.now c.requires.0 (expression c.args.test.now) (statement c.args.body.now) c.args.start c.args.started.now.next
      c.args.b.now c.condition.new.b c.wire.new.self c.or.new.b c.in_ok-c.c c.in_ok-start_body.start_body c.requires.1 c.in_ok-c.ensures c.in_ok-back.ensures.ok.1
      (Adds-then c.in_ok-anew.ensures.circuit.adds c.in_ok-start_body.ensures.circuit.adds) (c.in_ok-start_body.ensures.circuit.there 0 0 (omega arith)),
)

pub looping::do_while-returns : goal.looping::do_while-returns
looping::do_while-returns t c =
    λ place. do_built (kinds_of c.args.core.now.objects) c.args.at.now place (expression c.args.test.now) (statement c.args.body.now) c.args.start
    c.args.b.now c.condition.new.b c.wire.new.self c.or.new.b c.statement.new.b c.drive.new.self c.again.new.b c.args.started.now c.statement.new.started
    c.in_ok-c.c c.in_ok-back.back c.in_ok-start_body.start_body c.in_ok-ends.ends c.in_ok-whole.whole
    (do_loops_take_clocks c.requires.0 (statement c.args.body.now) (expression c.args.test.now) c.requires.1.loops) c.requires.1.reads
    (record {
      condition = c.in_ok-c.ensures;
      hung = c.in_ok-back.ensures.ok;
      gates = Adds-then c.in_ok-anew.ensures.circuit.adds c.in_ok-start_body.ensures.circuit.adds;
      begins = λ trace h x t. c.in_ok-start_body.ensures.circuit.value trace h x t
          ∙ ap (λ z. h t c.args.start || z) (c.in_ok-anew.ensures.circuit.value trace h (Adds-extends c.in_ok-start_body.ensures.circuit.adds trace h x) t);
      inner = c.in_ok-ends.ensures;
      driven = c.drive.ensures.driven;
      earlier = c.drive.ensures.earlier;
      comes_round = c.drive.ensures.value;
      join = c.in_ok-whole.ensures.circuit;
      never = c.in_ok-whole.ensures.never;
    })

pub statement::statement-returns-in-Skip : goal.statement::statement-returns-in-Skip
statement::statement-returns-in-Skip t c =
    skip_built _ _ _ c.args.start c.args.b.now c.args.started.now c.idle.result (ap statement c.in-Skip.is ∙ read_Skip) c.requires.reads c.idle.ensures.pass c.idle.ensures.finish

pub statement::statement-returns-in-Assign : goal.statement::statement-returns-in-Assign
statement::statement-returns-in-Assign t c =
    assign_built _ _ _ _ _ _ c.args.start c.args.b.now c.action.new.b c.args.started.now c.action.new.started c.action.result
    (ap statement c.in-Assign.is ∙ read_Assign c.in-Assign.place c.in-Assign.target c.in-Assign.value) c.requires.there c.action.ensures

pub statement::statement-returns-in-Delay : goal.statement::statement-returns-in-Delay
statement::statement-returns-in-Delay t c =
    delay_built _ _ _ _ c.args.start c.args.b.now c.action-in-Delay.new.b c.args.started.now c.action-in-Delay.new.started c.action-in-Delay.result
    (ap statement c.in-Delay.is ∙ read_Delay c.in-Delay.place) c.requires.there c.action-in-Delay.ensures

pub parallel::each-loop-rest-init : goal.parallel::each-loop-rest-init
parallel::each-loop-rest-init t c = each_start _ _ _ c.args.start c.args.b.now c.args.started.now c.new-all.result.items c.new-all.ensures.items c.requires

pub parallel::each-statement-requires : goal.parallel::each-statement-requires
parallel::each-statement-requires t c =
    let is = uncons c.loop-rest.rest.now c.first-item.result c.in-len1-up.len_at_least c.first-item.is in
    let fewer = branch_fewer _ _ _ c.loop-rest.rest.now _ c.first-item.result c.args.start _ c.loop-rest.b _ c.loop-rest.started c.loop-rest.all.items is c.loop-rest.invariant in
    (search rules, branch_can _ _ _ c.loop-rest.rest.now _ c.first-item.result c.args.start _ c.loop-rest.b _ c.loop-rest.started c.loop-rest.all.items is c.loop-rest.invariant)

pub parallel::each-loop-rest-preserved : goal.parallel::each-loop-rest-preserved
parallel::each-loop-rest-preserved t c =
    let is = uncons c.loop-rest.rest.now c.first-item.result c.in-len1-up.len_at_least c.first-item.is in
    each_next _ _ _ c.loop-rest.rest.now _ c.first-item.result c.args.start _ c.loop-rest.b _ c.loop-rest.started c.loop-rest.all.items is c.loop-rest.invariant
    c.statement.new.b c.statement.new.started c.in_ok-ends.ends c.push.new.self.items c.in-Ok.ensures.items c.in_ok-ends.ensures

pub parallel::each-returns : goal.parallel::each-returns
parallel::each-returns t c =
    each_end _ _ _ c.loop-rest.rest.now c.args.start _ c.loop-rest.b _ c.loop-rest.started c.loop-rest.all.items c.in_default.len_below c.loop-rest.invariant

pub parallel::parallel-each-requires : goal.parallel::parallel-each-requires
parallel::parallel-each-requires t c = (search rules, all_can c.requires.0 c.requires.1)

pub parallel::parallel-join-requires-clause-numbers : goal.parallel::parallel-join-requires-clause-numbers
parallel::parallel-join-requires-clause-numbers t c =
    join_numbers _ _ c.requires.0 c.args.branches.now c.args.start c.args.b.now c.each.new.b c.args.started.now c.each.new.started c.as_slice.result.now c.requires.1
    (each_as c.as_slice.result.now c.as_slice.ensures.value c.in_ok-ends.ensures)

pub parallel::parallel-join-requires-clause-branches : goal.parallel::parallel-join-requires-clause-branches
parallel::parallel-join-requires-clause-branches t c =
    join_branches _ _ c.requires.0 c.args.branches.now c.args.start c.args.b.now c.each.new.b c.args.started.now c.each.new.started c.as_slice.result.now c.requires.1
    (each_as c.as_slice.result.now c.as_slice.ensures.value c.in_ok-ends.ensures)

pub parallel::parallel-join-requires-clause-room : goal.parallel::parallel-join-requires-clause-room
parallel::parallel-join-requires-clause-room t c =
    join_room _ _ c.requires.0 c.args.branches.now c.args.start c.args.b.now c.each.new.b c.args.started.now c.each.new.started c.as_slice.result.now c.requires.1
    (each_as c.as_slice.result.now c.as_slice.ensures.value c.in_ok-ends.ensures)

pub parallel::parallel-overflow_cast-started : goal.parallel::parallel-overflow_cast-started
parallel::parallel-overflow_cast-started t c =
    let fits = numbers_fit _ _ c.requires.0 c.args.branches.now c.args.start c.args.b.now c.each.new.b c.args.started.now c.each.new.started c.in_ok-ends.ends.items c.requires.1 c.in_ok-ends.ensures in
    search rules

pub parallel::parallel-overflow_add-started : goal.parallel::parallel-overflow_add-started
parallel::parallel-overflow_add-started t c =
    let fits = numbers_fit _ _ c.requires.0 c.args.branches.now c.args.start c.args.b.now c.each.new.b c.args.started.now c.each.new.started c.in_ok-ends.ends.items c.requires.1 c.in_ok-ends.ensures in
    search rules

pub parallel::parallel-returns : goal.parallel::parallel-returns
parallel::parallel-returns t c = λ place.
    parallel_built _ _ place c.args.branches.now c.args.start c.args.b.now c.each.new.b c.args.started.now c.each.new.started c.as_slice.result.now
    (can_as place c.requires.1) (each_as c.as_slice.result.now c.as_slice.ensures.value c.in_ok-ends.ensures)
    c.join.new.b _ c.in_ok-whole.whole refl refl c.in_ok-whole.ensures.circuit c.in_ok-whole.ensures.never

pub arms::take_one-statement-requires : goal.arms::take_one-statement-requires
arms::take_one-statement-requires t c = (search rules, can_build_body _ _ _ c.args.start c.args.chosen _ c.in_ok-start_arm.start_arm c.args.b.now c.and.new.b c.requires c.in_ok-start_arm.ensures.circuit)

pub arms::take_one-returns : goal.arms::take_one-returns
arms::take_one-returns t c =
    taken_one _ _ _ c.args.start c.args.chosen c.in_ok-start_arm.start_arm c.in_ok-pass.pass c.in_ok-ends.ends c.args.b.now c.and.new.b c.statement.new.b c.and-2.new.b c.args.started.now c.statement.new.started
    c.requires.chosen_there.1 c.in_ok-start_arm.ensures.circuit c.in_ok-ends.ensures c.in_ok-pass.ensures.circuit c.in_ok-pass.ensures.never

pub arms::take-loop-i-init : goal.arms::take-loop-i-init
arms::take-loop-i-init t c = record {
  size = c.requires.count;
  so = takes_none _ _ _ c.args.start c.args.nets.now c.args.otherwise c.args.b.now c.args.started.now c.requires.take;
}

pub arms::take-chosen_net-requires-clause-room : goal.arms::take-chosen_net-requires-clause-room
arms::take-chosen_net-requires-clause-room t c =
    let room = arm_room _ _ _ _ _ _ _ c.args.start c.args.otherwise _ _ _ c.args.b.now c.loop-i.b c.args.started.now c.loop-i.started c.loop-i.whole (at_arm _ _ _ c.args.arms.now c.loop-i.i c.index-arms-i.result c.args.start c.args.otherwise c.args.nets.now c.loop-i.defaulted c.args.b.now c.loop-i.b c.args.started.now c.loop-i.started c.loop-i.whole c.loop-i-test.true c.loop-i.invariant.size c.loop-i.invariant.so) in
    omega arith

pub arms::take-take_one-requires : goal.arms::take-take_one-requires
arms::take-take_one-requires t c =
    let fewer = body_fewer c.args.arms.now c.loop-i.i c.index-arms-i-in-loop-i.result c.loop-i-test.true in (
      search rules,
      next_can _ _ _ _ _ _ _ c.args.start _ c.args.otherwise c.in_ok-chosen.chosen _ _ c.loop-i.defaulted c.args.b.now c.loop-i.b c.chosen_net.new.b c.args.started.now c.loop-i.started c.loop-i.whole
          (at_arm _ _ _ c.args.arms.now c.loop-i.i c.index-arms-i-in-loop-i.result c.args.start c.args.otherwise c.args.nets.now c.loop-i.defaulted c.args.b.now c.loop-i.b c.args.started.now c.loop-i.started c.loop-i.whole c.loop-i-test.true c.loop-i.invariant.size c.loop-i.invariant.so)
          (same_net _ c.args.nets.now c.loop-i.i c.args.otherwise c.in_ok-chosen.chosen c.loop-i.b c.chosen_net.new.b _ _ c.as_slice.ensures refl c.in_ok-chosen.ensures),
    )

pub arms::take-either-requires-clause-room : goal.arms::take-either-requires-clause-room
arms::take-either-requires-clause-room t c =
    let room = arm_room _ _ _ _ _ _ _ c.args.start c.args.otherwise _ _ _ c.args.b.now c.loop-i.b c.args.started.now c.loop-i.started c.loop-i.whole (at_arm _ _ _ c.args.arms.now c.loop-i.i c.index-arms-i-in-loop-i.result c.args.start c.args.otherwise c.args.nets.now c.loop-i.defaulted c.args.b.now c.loop-i.b c.args.started.now c.loop-i.started c.loop-i.whole c.loop-i-test.true c.loop-i.invariant.size c.loop-i.invariant.so) in
    omega (arith, Adds-room c.in_ok-chosen.ensures.adds, control_room c.in_ok-ends.ensures.adds)

pub arms::take-loop-i-preserved : goal.arms::take-loop-i-preserved
arms::take-loop-i-preserved t c = record {
  size = c.requires.count;
  so =
      let other : Bool = (get_or c.args.arms.now c.loop-i.i c.index-arms-i-in-loop-i.result).other in
      let is_default : (other && not c.loop-i.defaulted) ≡ c.if-arms-i.is_default = elim c.if-arms-i.branch [
        | arms::take-then-arms-i w ↦ ap (λ b. b && not c.loop-i.defaulted) (same_other c.args.arms.now c.loop-i.i c.index-arms-i.result c.index-arms-i-in-loop-i.result true c.loop-i-test.true w.if-arms-i.true) ∙ sym w.is_default-is
        | arms::take-else-arms-i w ↦ ap (λ b. b && not c.loop-i.defaulted) (same_other c.args.arms.now c.loop-i.i c.index-arms-i.result c.index-arms-i-in-loop-i.result false c.loop-i-test.true w.if-arms-i.false) ∙ sym (w.is_default-is ∙ w.if-arms-i.false)
      ] in
      let defaulted : (c.loop-i.defaulted || other) ≡ c.if-defaulted.defaulted = elim c.if-defaulted.branch [
        | arms::take-then-defaulted w ↦ ap (λ b. b || other) w.if-defaulted.true ∙ sym (w.defaulted-is ∙ w.if-defaulted.true)
        | arms::take-else-defaulted w ↦ ap (λ b. b || other) w.if-defaulted.false ∙ same_other c.args.arms.now c.loop-i.i w.index-arms-i-else-defaulted.result c.index-arms-i-in-loop-i.result _ c.loop-i-test.true refl ∙ sym w.defaulted-is
      ] in
      flag_is _ _ _ _ c.args.start c.args.otherwise c.args.nets.now _ _ c.if-defaulted.defaulted c.args.b.now c.either.new.b c.args.started.now c.take_one.new.started c.in_ok-whole.whole defaulted
      (takes_more _ _ _ _ _ other _ c.args.start _ c.args.otherwise c.in_ok-chosen.chosen c.args.nets.now _ c.loop-i.defaulted c.args.b.now c.loop-i.b c.chosen_net.new.b c.take_one.new.b c.either.new.b
      c.args.started.now c.loop-i.started c.take_one.new.started c.loop-i.whole c.in_ok-ends.ends c.in_ok-whole.whole
      (at_arm _ _ _ c.args.arms.now c.loop-i.i c.index-arms-i-in-loop-i.result c.args.start c.args.otherwise c.args.nets.now c.loop-i.defaulted c.args.b.now c.loop-i.b c.args.started.now c.loop-i.started c.loop-i.whole c.loop-i-test.true c.loop-i.invariant.size c.loop-i.invariant.so)
      (same_net _ c.args.nets.now c.loop-i.i c.args.otherwise c.in_ok-chosen.chosen c.loop-i.b c.chosen_net.new.b _ (other && not c.loop-i.defaulted) c.as_slice.ensures (sym is_default) c.in_ok-chosen.ensures)
      c.in_ok-ends.ensures c.in_ok-whole.ensures.circuit c.in_ok-whole.ensures.never);
}

pub arms::take-returns-then-defaulted-2 : goal.arms::take-returns-then-defaulted-2
arms::take-returns-then-defaulted-2 t c =
    takes_defaulted _ _ _ c.args.start c.args.otherwise c.args.nets.now _ c.args.b.now c.loop-i.b c.args.started.now c.loop-i.started c.loop-i.whole
    (flag_is _ _ _ _ c.args.start c.args.otherwise c.args.nets.now _ c.loop-i.defaulted true c.args.b.now c.loop-i.b c.args.started.now c.loop-i.started c.loop-i.whole c.if-defaulted-2.true
    (past_arms _ _ _ c.args.arms.now c.loop-i.i c.args.start c.args.otherwise c.args.nets.now c.loop-i.defaulted c.args.b.now c.loop-i.b c.args.started.now c.loop-i.started c.loop-i.whole (omega arith) c.loop-i.invariant.so))

pub arms::take-or-requires-clause-room : goal.arms::take-or-requires-clause-room
arms::take-or-requires-clause-room t c =
    last_room _ _ _ c.args.start c.args.otherwise _ _ c.loop-i.defaulted c.args.b.now c.loop-i.b c.args.started.now c.loop-i.started c.loop-i.whole
    (past_arms _ _ _ c.args.arms.now c.loop-i.i c.args.start c.args.otherwise c.args.nets.now c.loop-i.defaulted c.args.b.now c.loop-i.b c.args.started.now c.loop-i.started c.loop-i.whole (omega arith) c.loop-i.invariant.so)

pub arms::take-returns : goal.arms::take-returns
arms::take-returns t c =
    takes_otherwise _ _ _ c.args.start c.args.otherwise c.in_ok-pass.pass c.args.nets.now _ c.args.b.now c.loop-i.b c.or.new.b c.args.started.now c.loop-i.started c.loop-i.whole
    (flag_is _ _ _ _ c.args.start c.args.otherwise c.args.nets.now _ c.loop-i.defaulted false c.args.b.now c.loop-i.b c.args.started.now c.loop-i.started c.loop-i.whole c.if-defaulted-2.false
    (past_arms _ _ _ c.args.arms.now c.loop-i.i c.args.start c.args.otherwise c.args.nets.now c.loop-i.defaulted c.args.b.now c.loop-i.b c.args.started.now c.loop-i.started c.loop-i.whole (omega arith) c.loop-i.invariant.so))
    c.in_ok-pass.ensures.circuit

pub arms::switch-value-requires-clause-nets : goal.arms::switch-value-requires-clause-nets
arms::switch-value-requires-clause-nets t c =
    let can = c.requires.1 in
    has_nets (kinds_of c.args.core.now.objects) c.args.b.now.nodes c.args.at.now can.reads.places (expression c.args.selector.now) can.typed.0 can.typed.1 can.typed.2 (selector_built _ _ _ _ _ _ _ _ can)

pub arms::switch-labelled-requires-clause-some : goal.arms::switch-labelled-requires-clause-some
arms::switch-labelled-requires-clause-some t c =
    let can = c.requires.1 in
    let width = c.in_ok-x.ensures.width in
    omega (arith, width, some_bit (kinds_of c.args.core.now.objects) (expression c.args.selector.now) can.reads.sound (can.typed.0, can.typed.1, can.typed.2))

pub arms::switch-labelled-requires-clause-labels : goal.arms::switch-labelled-requires-clause-labels
arms::switch-labelled-requires-clause-labels t c =
    let can = c.requires.1 in
    labels_typed (kinds_of c.args.core.now.objects) can.typed.0 _ can.typed.1 (arms c.args.arms.now) (c.in_ok-x.ensures.width ∙ widths_are (kinds_of c.args.core.now.objects) (expression c.args.selector.now) can.typed.0 can.typed.1 can.typed.2) can.typed.3

pub arms::switch-labelled-requires-clause-room : goal.arms::switch-labelled-requires-clause-room
arms::switch-labelled-requires-clause-room t c =
    let room = selector_room _ _ _ _ _ _ _ c.in_ok-x.x _ c.requires.1 c.in_ok-x.ensures.width in
    omega (arith, Adds-room c.in_ok-x.ensures.circuit.adds)

pub arms::switch-any-requires-clause-room : goal.arms::switch-any-requires-clause-room
arms::switch-any-requires-clause-room t c =
    let room = selector_room _ _ _ _ _ _ _ c.in_ok-x.x _ c.requires.1 c.in_ok-x.ensures.width in
    let count = c.in_ok-nets.ensures.count ∙ sym (arms_length c.args.arms.now) in
    omega (arith, Adds-room c.in_ok-x.ensures.circuit.adds, Adds-room c.in_ok-nets.ensures.circuit.adds)

pub arms::switch-not-requires-clause-net : goal.arms::switch-not-requires-clause-net
arms::switch-not-requires-clause-net t c = c.in_ok-some.ensures.there 0 0 (omega arith)

pub arms::switch-not-requires-clause-room : goal.arms::switch-not-requires-clause-room
arms::switch-not-requires-clause-room t c =
    let room = selector_room _ _ _ _ _ _ _ c.in_ok-x.x _ c.requires.1 c.in_ok-x.ensures.width in
    let count = c.in_ok-nets.ensures.count ∙ sym (arms_length c.args.arms.now) in
    omega (arith, Adds-room c.in_ok-x.ensures.circuit.adds, Adds-room c.in_ok-nets.ensures.circuit.adds, Adds-room c.in_ok-some.ensures.adds)

pub arms::switch-take-requires : goal.arms::switch-take-requires
arms::switch-take-requires t c =
    let so : Selects (kinds_of c.args.core.now.objects) c.args.at.now (expression c.args.selector.now) (arms c.args.arms.now) c.in_ok-x.x c.in_ok-nets.nets c.in_ok-some.some c.in_ok-otherwise.otherwise c.args.b.now c.value.new.b c.labelled.new.b c.any.new.b c.not.new.b = record {
      width = c.in_ok-x.ensures.width;
      value = c.in_ok-x.ensures.circuit;
      count = c.in_ok-nets.ensures.count ∙ sym (arms_length c.args.arms.now);
      named = c.in_ok-nets.ensures.circuit;
      any = c.in_ok-some.ensures;
      none = c.in_ok-otherwise.ensures.circuit;
    } in
    (search rules, (can_take _ _ c.requires.0 _ _ c.args.start _ c.in_ok-x.x c.in_ok-nets.nets c.in_ok-some.some c.in_ok-otherwise.otherwise c.args.b.now c.value.new.b c.labelled.new.b c.any.new.b c.not.new.b c.requires.1 so, c.in_ok-nets.ensures.count))

pub arms::switch-returns : goal.arms::switch-returns
arms::switch-returns t c =
    let so : Selects (kinds_of c.args.core.now.objects) c.args.at.now (expression c.args.selector.now) (arms c.args.arms.now) c.in_ok-x.x c.in_ok-nets.nets c.in_ok-some.some c.in_ok-otherwise.otherwise c.args.b.now c.value.new.b c.labelled.new.b c.any.new.b c.not.new.b = record {
      width = c.in_ok-x.ensures.width;
      value = c.in_ok-x.ensures.circuit;
      count = c.in_ok-nets.ensures.count ∙ sym (arms_length c.args.arms.now);
      named = c.in_ok-nets.ensures.circuit;
      any = c.in_ok-some.ensures;
      none = c.in_ok-otherwise.ensures.circuit;
    } in
    IfOk-weaker c.take.result _ _
    (λ ends takes. switch_built _ _ c.requires.0 _ _ c.args.start _ c.in_ok-x.x c.in_ok-nets.nets c.in_ok-some.some c.in_ok-otherwise.otherwise c.args.b.now c.value.new.b c.labelled.new.b c.any.new.b c.not.new.b c.requires.1 so
    c.take.new.b c.args.started.now c.take.new.started ends takes)
    c.take.ensures
