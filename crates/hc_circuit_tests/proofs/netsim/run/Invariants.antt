use Rattle.hc_circuit_tests.specs.Counter.{HasPorts}
use Rattle.hc_circuit_tests.proofs.netsim.run.Given as goal

abbrev pub invariant-loop-input : goal.invariant-loop-input
invariant-loop-input g l = HasPorts (g.B.Bench.meaning l.bench)
