-- What is still to be written makes of the store what all of it makes of the first one.
use Rattle.std.proofs.Common.{◌≡◌, drop}
use Rattle.hc_meaning.specs.Clock.{after}
use Rattle.hc_sim.proofs.store.Store.put_all.Given as goal

abbrev pub invariant-loop-write : goal.invariant-loop-write
invariant-loop-write l = after (drop l.write-index l.writes) l.self ≡ after l.writes l.initial.self
