use Rattle.std.proofs.Common.{◌≡◌, take, reverse}
use Rattle.hc_bits.proofs.shift.reversed.Given as goal

abbrev pub invariant-loop-i : goal.invariant-loop-i
invariant-loop-i l = l.turned ≡ take l.i (reverse l.x)
