-- No object that was passed is in both sets, and k is the number of the first one that is left.
use Rattle.std.proofs.Common.{◌≡◌, ◌+◌, nat_eq, length}
use Rattle.indexmap.specs.IndexSet.{contains}
use Rattle.hc_core.specs.FirstPlace.{first_object}
use Rattle.hc_rules.specs.Offered.{offered}
use Rattle.hc_rules.proofs.objects.first_of_sets.Given as goal

abbrev pub invariant-loop-rest : goal.invariant-loop-rest
invariant-loop-rest l =
    (l.k + length l.rest ≡ length l.objects)
    × (first_object (offered (contains nat_eq l.sends) (contains nat_eq l.receives)) 0 l.objects ≡ first_object (offered (contains nat_eq l.sends) (contains nat_eq l.receives)) l.k l.rest)

abbrev pub decreases-loop-rest : goal.decreases-loop-rest
decreases-loop-rest l = length l.rest
