use Rattle.std.proofs.Common.{◌≡◌, ◌*◌, ◌++◌, length, map}
use Rattle.std.specs.List.{range_with_len}
use Rattle.hc_net.specs.Made.{Makes}
use Rattle.hc_store.specs.Takes.{all_nets, column_nets, some_both}
use Rattle.hc_store.proofs.register.next_bits.Given as goal

abbrev pub invariant-loop-i : goal.invariant-loop-i
invariant-loop-i l = record {
  width : length l.next ≡ l.i;
  made : Makes (l.i * (2 * length l.choices)) (l.choices ++ (l.q ++ all_nets l.values)) l.initial.b l.b l.next
      (λ v. map v l.next ≡ map (λ i. some_both (map v l.choices) (map v (column_nets l.q l.values i))) (range_with_len 0 l.i));
}
