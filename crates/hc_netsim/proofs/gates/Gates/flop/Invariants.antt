use Rattle.std.proofs.Common.{◌≡◌, ◌<◌, ℕ, Some}
use Rattle.std.specs.Prelude.{◌≢◌, slice_get}
use Rattle.hc_net.specs.declared.net.Flop.{Flop}
use Rattle.hc_netsim.proofs.gates.Gates.flop.Given as goal

abbrev pub invariant-loop-k : goal.invariant-loop-k
invariant-loop-k l = (j : ℕ) (f : Flop) → j < l.k → slice_get l.flops j ≡ Some f → f.name ≢ l.name
