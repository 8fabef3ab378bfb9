use Rattle.std.proofs.Common.{◌≡◌, ◌<◌, ℕ, Some}
use Rattle.std.specs.Prelude.{◌≢◌, slice_get}
use Rattle.hc_netsim.specs.Held.{Held}
use Rattle.hc_netsim.proofs.gates.Gates.word.Given as goal

abbrev pub invariant-loop-memory : goal.invariant-loop-memory
invariant-loop-memory l = (j : ℕ) (m : Held) → j < l.memory-index → slice_get l.memory-items j ≡ Some m → m.ram.object ≢ l.object
