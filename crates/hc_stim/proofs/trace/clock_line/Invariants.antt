use Rattle.std.proofs.Common.{◌≡◌, ◌++◌, take, decimal}
use Rattle.hc_stim.specs.Text.{spaced}
use Rattle.hc_stim.proofs.trace.clock_line.Given as goal

abbrev pub invariant-loop-value : goal.invariant-loop-value
invariant-loop-value l = l.line.items ≡ decimal l.fn.clock ++ spaced (take l.value-index l.values)
