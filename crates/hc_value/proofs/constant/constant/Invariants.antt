use Rattle.std.proofs.Common.{◌≡◌, map}
use Rattle.std.specs.Prelude.{if◌then◌else◌}
use Rattle.std.specs.List.{range_with_len}
use Rattle.hc_net.specs.Bits.{bit}
use Rattle.hc_value.proofs.constant.constant.Given as goal

abbrev pub invariant-loop-place : goal.invariant-loop-place
invariant-loop-place l = l.nets ≡ map (λ i. if bit l.n.bits i then l.one else l.zero) (range_with_len 0 l.place)
