use Rattle.std.proofs.Common.{◌≡◌, length}
use Rattle.hc_scope.specs.Statement as spec
use Rattle.hc_expand.proofs.switch.has_default.Given as goal

-- what is left of the labels decides for all of them
abbrev pub invariant-loop-labels : goal.invariant-loop-labels
invariant-loop-labels l = spec.has_default l.fn.labels ≡ spec.has_default l.labels

abbrev pub decreases-loop-labels : goal.decreases-loop-labels
decreases-loop-labels l = length l.labels
