-- The pairs so far are in the sets.
use Rattle.std.proofs.Common.{length, drop}
use Rattle.hc_cycle.proofs.Heads.{HeadsLeft}
use Rattle.hc_cycle.proofs.sets.Gather.heads.Given as goal

abbrev pub invariant-loop-pair : goal.invariant-loop-pair
invariant-loop-pair l = HeadsLeft l.fn.self l.self l.heads (length l.initial.heads) l.pairs (drop l.pair-index l.pairs)
