use Rattle.std.proofs.Common.{◌≡◌, take, replicate, false}
use Rattle.hc_netsim.proofs.numbers.put_zeros.Given as goal

abbrev pub invariant-loop-bit : goal.invariant-loop-bit
invariant-loop-bit l = take l.bit-index l.bits ≡ replicate l.bit-index false
