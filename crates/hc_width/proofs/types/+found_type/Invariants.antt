use Rattle.hc_core.specs.Read.{expression}
use Rattle.hc_width.proofs.Heights.{nodes}
use Rattle.hc_width.proofs.types.+found_type.Given as goal

abbrev pub decreases-found_type : goal.decreases-found_type
decreases-found_type l = nodes (expression l.e.now)
