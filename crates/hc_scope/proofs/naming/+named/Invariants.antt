use Rattle.hc_scope.specs.Reading.{scope_of}
use Rattle.hc_scope.specs.Depth.{depth}
use Rattle.hc_scope.proofs.naming.+named.Given as goal

abbrev pub decreases-named : goal.decreases-named
decreases-named l = depth (scope_of l.scope.now)
