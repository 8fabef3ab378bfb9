use Rattle.std.proofs.Common.{◌≡◌, ◌<◌, ◌^◌, ◌++◌, decimal, length}
use Rattle.hc_stim.proofs.number.read_digits.Given as goal

abbrev pub invariant-loop-digit : goal.invariant-loop-digit
invariant-loop-digit l = record {
  some : 0 < l.value;
  small : l.value < 2 ^ 128;
  text : decimal l.fn.first ++ l.fn.bytes ≡ decimal l.value ++ l.rest;
}

abbrev pub decreases-loop-digit : goal.decreases-loop-digit
decreases-loop-digit l = length l.rest
