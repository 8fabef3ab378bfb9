use Rattle.std.proofs.Common.{length}
use Rattle.hc_tests.proofs.gates.+fit.Given as goal

abbrev pub decreases-fit : goal.decreases-fit
decreases-fit l = length l.ports.now
