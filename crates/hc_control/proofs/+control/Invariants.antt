-- The parts of a statement, of a list and of arms fall along the calls, and each loop keeps what it built.
use Rattle.std.proofs.Common.{◌≡◌, ◌+◌, ◌*◌, drop, length}
use Rattle.hc_core.specs.Read.{statement, statements, arms}
use Rattle.hc_core.specs.Parts.{statement_parts, all_parts, arms_parts}
use Rattle.hc_core.specs.Typed.{kinds_of}
use Rattle.hc_control.proofs.Ordered.{Ordered}
use Rattle.hc_control.proofs.Branched.{EachBuilt}
use Rattle.hc_control.proofs.Taken.{TakesSome}
use Rattle.hc_control.proofs.+control.Given as goal

abbrev pub decreases-statement::statement : goal.decreases-statement::statement
decreases-statement::statement l = 4 * statement_parts (statement l.s.now)

abbrev pub decreases-sequence::sequence : goal.decreases-sequence::sequence
decreases-sequence::sequence l = 4 * all_parts (statements l.parts.now) + 1

abbrev pub decreases-parallel::parallel : goal.decreases-parallel::parallel
decreases-parallel::parallel l = 4 * all_parts (statements l.branches.now) + 2

abbrev pub decreases-parallel::each : goal.decreases-parallel::each
decreases-parallel::each l = 4 * all_parts (statements l.branches.now) + 1

abbrev pub decreases-sides::sides : goal.decreases-sides::sides
decreases-sides::sides l = 4 * (statement_parts (statement l.yes.now) + statement_parts (statement l.no.now)) + 1

abbrev pub decreases-looping::while_loop : goal.decreases-looping::while_loop
decreases-looping::while_loop l = 4 * statement_parts (statement l.body.now) + 1

abbrev pub decreases-looping::do_while : goal.decreases-looping::do_while
decreases-looping::do_while l = 4 * statement_parts (statement l.body.now) + 1

abbrev pub decreases-arms::switch : goal.decreases-arms::switch
decreases-arms::switch l = 4 * arms_parts (arms l.arms.now) + 3

abbrev pub decreases-arms::take : goal.decreases-arms::take
decreases-arms::take l = 4 * arms_parts (arms l.arms.now) + 2

abbrev pub decreases-arms::take_one : goal.decreases-arms::take_one
decreases-arms::take_one l = 4 * statement_parts (statement l.body.now) + 1

abbrev pub invariant-sequence::sequence-loop-rest : goal.invariant-sequence::sequence-loop-rest
invariant-sequence::sequence-loop-rest l = Ordered (kinds_of l.core.objects) l.at (statements l.parts) (statements l.rest) l.start l.fn.b l.b l.fn.started l.started l.ends

abbrev pub decreases-sequence::sequence-loop-rest : goal.decreases-sequence::sequence-loop-rest
decreases-sequence::sequence-loop-rest l = length l.rest

abbrev pub invariant-parallel::each-loop-rest : goal.invariant-parallel::each-loop-rest
invariant-parallel::each-loop-rest l = EachBuilt (kinds_of l.core.objects) l.at (statements l.branches) (statements l.rest) l.start l.fn.b l.b l.fn.started l.started l.all.items

abbrev pub decreases-parallel::each-loop-rest : goal.decreases-parallel::each-loop-rest
decreases-parallel::each-loop-rest l = length l.rest

abbrev pub invariant-arms::take-loop-i : goal.invariant-arms::take-loop-i
invariant-arms::take-loop-i l = record {
  size : length l.nets ≡ length l.arms;
  so : TakesSome (kinds_of l.core.objects) l.at (arms l.arms) (arms (drop l.i l.arms)) l.start l.nets (drop l.i l.nets) l.otherwise l.defaulted l.fn.b l.b l.fn.started l.started l.whole;
}
