-- The netlist stays what it is.
use Rattle.std.proofs.Common.{◌≡◌}
use Rattle.hc_tests.proofs.gates.runs.Given as goal

abbrev pub invariant-loop-t : goal.invariant-loop-t
invariant-loop-t l = l.gates.net ≡ l.net
