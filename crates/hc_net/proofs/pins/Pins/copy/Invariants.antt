use Rattle.std.proofs.Common.{◌≡◌, take}
use Rattle.hc_net.proofs.pins.Pins.copy.Given as goal

abbrev pub invariant-loop-label : goal.invariant-loop-label
invariant-loop-label l = l.pins ≡ take l.label-index l.labels
