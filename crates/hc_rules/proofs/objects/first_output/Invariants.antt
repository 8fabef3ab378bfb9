-- No output that was passed has a RAM or ROM in its expression.
use Rattle.std.proofs.Common.{◌≡◌, length}
use Rattle.hc_core.specs.FirstPlace.{first_object}
use Rattle.hc_core.specs.Rules.{in_an_output}
use Rattle.hc_rules.proofs.objects.first_output.Given as goal

abbrev pub invariant-loop-rest : goal.invariant-loop-rest
invariant-loop-rest l = first_object in_an_output 0 l.objects ≡ first_object in_an_output 0 l.rest

abbrev pub decreases-loop-rest : goal.decreases-loop-rest
decreases-loop-rest l = length l.rest
