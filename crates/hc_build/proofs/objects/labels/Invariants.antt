use Rattle.std.proofs.Common.{◌≡◌, take}
use Rattle.hc_build.proofs.objects.labels.Given as goal

abbrev pub invariant-loop-pin : goal.invariant-loop-pin
invariant-loop-pin l = l.labels ≡ take l.pin-index l.pin-items
