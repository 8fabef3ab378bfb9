-- The parts of a statement and of a list fall along the calls, and each loop has gathered the actions of what it passed.
use Rattle.std.proofs.Common.{◌+◌, ◌*◌, map, take}
use Rattle.hc_core.specs.Read.{statement, statements, arms}
use Rattle.hc_core.specs.Parts.{statement_parts, all_parts, arms_parts}
use Rattle.hc_control.specs.Listing.{Gathers, actions_in_all, actions_in_arms}
use Rattle.hc_control.proofs.listing.+gather.Given as goal

abbrev pub decreases-gather : goal.decreases-gather
decreases-gather l = 2 * statement_parts (statement l.s.now)

abbrev pub decreases-gather_all : goal.decreases-gather_all
decreases-gather_all l = 2 * all_parts (statements l.parts.now) + 1

abbrev pub decreases-gather_arms : goal.decreases-gather_arms
decreases-gather_arms l = 2 * arms_parts (arms l.list.now) + 1

abbrev pub invariant-gather_all-loop-part : goal.invariant-gather_all-loop-part
invariant-gather_all-loop-part l = Gathers (actions_in_all (statements (take l.part-index l.parts))) (map (λ s. s.now) l.fn.all.items) (map (λ s. s.now) l.all.items)

abbrev pub invariant-gather_arms-loop-arm : goal.invariant-gather_arms-loop-arm
invariant-gather_arms-loop-arm l = Gathers (actions_in_arms (arms (take l.arm-index l.list))) (map (λ s. s.now) l.fn.all.items) (map (λ s. s.now) l.all.items)
