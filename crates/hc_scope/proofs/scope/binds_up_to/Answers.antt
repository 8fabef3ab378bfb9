use Rattle.std.proofs.Common.{refl}
use Rattle.hc_scope.specs.Reading.{scope_of}
use Rattle.hc_scope.proofs.scope.binds_up_to.Goals as goal

pub returns : goal.returns
unfolding scope_of
returns c = refl
