use Rattle.std.proofs.Common.{◌≡◌, length, ◌-◌, take}
use Rattle.hc_net.proofs.builder.drop_last.Given as goal

abbrev pub invariant-loop-dropped : goal.invariant-loop-dropped
invariant-loop-dropped l = l.nodes ≡ take (length l.initial.nodes - l.dropped) l.initial.nodes
