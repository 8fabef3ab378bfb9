-- The labels of the arms that were passed are those that were seen, and none of them was met twice.
use Rattle.std.proofs.Common.{◌≡◌, [], length}
use Rattle.hc_core.specs.Read.{arms}
use Rattle.hc_core.specs.Rules.{labels}
use Rattle.hc_rules.specs.Labels.{meets}
use Rattle.hc_rules.proofs.labels.repeats.Given as goal

abbrev pub invariant-loop-rest : goal.invariant-loop-rest
invariant-loop-rest l = meets [] (labels (arms l.list)) ≡ meets l.seen.keys (labels (arms l.rest))

abbrev pub decreases-loop-rest : goal.decreases-loop-rest
decreases-loop-rest l = length l.rest
