use Rattle.hc_circuit_tests.specs.Memory.{HasPins}
use Rattle.hc_circuit_tests.proofs.memory.run.Given as goal

abbrev pub invariant-loop-access : goal.invariant-loop-access
invariant-loop-access g l = HasPins (g.B.Bench.meaning l.bench)
