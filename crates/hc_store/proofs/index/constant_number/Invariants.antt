use Rattle.std.proofs.Common.{◌≡◌, ◌<◌, ◌-◌, ◌^◌, length, drop, Some}
use Rattle.hc_store.specs.Arrays.{constant_number}
use Rattle.hc_store.proofs.index.constant_number.Given as goal

abbrev pub invariant-loop-i : goal.invariant-loop-i
invariant-loop-i l = record {
  number : constant_number l.b.nodes (drop (length l.index - l.i) l.index) ≡ Some l.number;
  small : l.number < 2 ^ l.i;
}
