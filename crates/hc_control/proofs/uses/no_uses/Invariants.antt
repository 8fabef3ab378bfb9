use Rattle.std.proofs.Common.{◌≡◌}
use Rattle.std.specs.Prelude.{replicate}
use Rattle.hc_control.specs.Uses.{no_use}
use Rattle.hc_control.proofs.uses.no_uses.Given as goal

abbrev pub invariant-loop-k : goal.invariant-loop-k
invariant-loop-k l = l.uses.items ≡ replicate l.k no_use
