-- The labels that were passed are seen, and none of them was met twice.
use Rattle.std.proofs.Common.{◌≡◌, List, ◌++◌, length}
use Rattle.hc_num.specs.Number.{Number}
use Rattle.hc_rules.specs.Labels.{meets}
use Rattle.hc_rules.proofs.labels.note.Given as goal

abbrev pub invariant-loop-rest : goal.invariant-loop-rest
invariant-loop-rest l = (behind : List Number) → meets l.initial.seen.keys (l.values ++ behind) ≡ meets l.seen.keys (l.rest ++ behind)

abbrev pub decreases-loop-rest : goal.decreases-loop-rest
decreases-loop-rest l = length l.rest
