use Rattle.std.proofs.Common.{◌≡◌, ◌*◌, ◌++◌, length, map}
use Rattle.std.specs.List.{range_with_len}
use Rattle.hc_net.specs.Made.{Makes}
use Rattle.hc_ram.specs.Enabled.{all_nets, any_enabled}
use Rattle.hc_ram.proofs.enabled.any_enabled.Given as goal

abbrev pub invariant-loop-i : goal.invariant-loop-i
invariant-loop-i l = record {
  width : length l.bits ≡ l.i;
  made : Makes (l.i * (2 * length l.enables)) (l.enables ++ all_nets l.values) l.initial.b l.b l.bits
      (λ v. map v l.bits ≡ map (any_enabled v l.enables l.values) (range_with_len 0 l.i));
}
