use Rattle.std.proofs.Common.{◌≡◌}
use Rattle.hc_store.specs.Signals.{constant_nets}
use Rattle.hc_store.proofs.signal.constant_nets.Given as goal

abbrev pub invariant-loop-place : goal.invariant-loop-place
invariant-loop-place l = l.nets ≡ constant_nets l.zero l.one l.place l.bits
