-- What was added, and the channels of the rest of the cases, make up those of all cases.
use Rattle.std.proofs.Common.{length}
use Rattle.hc_core.specs.Read.{cases}
use Rattle.hc_core.specs.Rules.{channels}
use Rattle.hc_rules.proofs.Adding.{Adds}
use Rattle.hc_rules.proofs.channels.of_one.Given as goal

abbrev pub invariant-loop-rest : goal.invariant-loop-rest
invariant-loop-rest l = Adds l.initial.found.items (channels (cases l.list)) l.found.items (channels (cases l.rest))

abbrev pub decreases-loop-rest : goal.decreases-loop-rest
decreases-loop-rest l = length l.rest
