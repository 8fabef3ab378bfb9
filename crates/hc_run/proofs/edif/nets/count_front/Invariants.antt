use Rattle.std.proofs.Common.{◌≡◌, ◌<◌, ℕ, get_or}
use Rattle.hc_run.specs.declared.edif.pins.Reader.{Reader}
use Rattle.hc_run.proofs.edif.nets.count_front.Given as goal

abbrev pub invariant-loop-i : goal.invariant-loop-i
invariant-loop-i l = (k : ℕ) (d : Reader) → k < l.i → (get_or l.readers k d).net ≡ l.net
