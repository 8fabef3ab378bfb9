-- What was added, and what the rest of the cases add, make up what all cases add.
use Rattle.std.proofs.Common.{length}
use Rattle.hc_core.specs.Read.{cases}
use Rattle.hc_core.specs.Depends.{case_accesses}
use Rattle.hc_core.specs.Rules.{accessed}
use Rattle.hc_rules.proofs.Adding.{Adds}
use Rattle.hc_rules.proofs.accesses.of_cases.Given as goal

abbrev pub invariant-loop-rest : goal.invariant-loop-rest
invariant-loop-rest l = Adds l.initial.found.items (accessed (case_accesses (cases l.list))) l.found.items (accessed (case_accesses (cases l.rest)))

abbrev pub decreases-loop-rest : goal.decreases-loop-rest
decreases-loop-rest l = length l.rest
