use Rattle.std.proofs.Common.{◌≡◌, length, map, get_or}
use Rattle.std.specs.List.{range_with_len}
use Rattle.hc_net.specs.Bits.{bit}
use Rattle.hc_net.specs.Made.{Makes}
use Rattle.hc_control.specs.Selecting.{same_bit}
use Rattle.hc_control.proofs.labels.is.Given as goal

abbrev pub invariant-loop-i : goal.invariant-loop-i
invariant-loop-i l = record {
  width : length l.bits ≡ l.i;
  made : Makes l.i l.x l.initial.b l.b l.bits (λ v. map v l.bits ≡ map (λ k. same_bit (v (get_or l.x k 0)) (bit l.n.bits k)) (range_with_len 0 l.i));
}
