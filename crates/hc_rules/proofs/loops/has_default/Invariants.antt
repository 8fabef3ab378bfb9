-- No arm that was passed has the label `default`.
use Rattle.std.proofs.Common.{◌≡◌, length}
use Rattle.hc_core.specs.Read.{arms}
use Rattle.hc_core.specs.Zero.{has_default}
use Rattle.hc_rules.proofs.loops.has_default.Given as goal

abbrev pub invariant-loop-rest : goal.invariant-loop-rest
invariant-loop-rest l = has_default (arms l.list) ≡ has_default (arms l.rest)

abbrev pub decreases-loop-rest : goal.decreases-loop-rest
decreases-loop-rest l = length l.rest
