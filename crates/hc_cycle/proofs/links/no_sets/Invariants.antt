-- Three empty sets for each object so far.
use Rattle.hc_cycle.proofs.Loops.{NoSets}
use Rattle.hc_cycle.proofs.links.no_sets.Given as goal

abbrev pub invariant-loop-object : goal.invariant-loop-object
invariant-loop-object l = NoSets l.sets l._object-index
