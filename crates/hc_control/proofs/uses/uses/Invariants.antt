-- What the first actions made.
use Rattle.std.proofs.Common.{map, take}
use Rattle.hc_core.specs.Typed.{kinds_of}
use Rattle.hc_control.specs.Listing.{action_of}
use Rattle.hc_control.specs.Uses.{MakesUses}
use Rattle.hc_control.proofs.uses.uses.Given as goal

abbrev pub invariant-loop-i : goal.invariant-loop-i
invariant-loop-i l = MakesUses (kinds_of l.core.objects) l.at l.starts (take l.i (map (λ s. action_of s.now) l.actions)) l.fn.b l.b l.uses.items
