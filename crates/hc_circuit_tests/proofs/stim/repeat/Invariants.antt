use Rattle.std.proofs.Common.{◌≡◌, Some, length}
use Rattle.hc_stim.specs.Bench.{IsSameBench, state_after}
use Rattle.hc_circuit_tests.proofs.stim.repeat.Given as goal

abbrev pub invariant-loop-clock : goal.invariant-loop-clock
invariant-loop-clock g l =
    let old = g.B.Bench.meaning l.initial.bench in
    let now = g.B.Bench.meaning l.bench in
    record {
      same : IsSameBench old now;
      size : length l.outputs ≡ old.outputs;
      after : state_after old.step old.state (λ t. l.inputs) l._clock ≡ Some now.state;
    }
