-- So far there are the first of the numbers.
use Rattle.std.proofs.Common.{◌≡◌, take}
use Rattle.hc_meaning.specs.Value.{bits_of, padded}
use Rattle.hc_sim.proofs.store.padded.Given as goal

abbrev pub invariant-loop-k : goal.invariant-loop-k
invariant-loop-k l = l.found.items ≡ take l.k (padded l.length (bits_of l.first))
