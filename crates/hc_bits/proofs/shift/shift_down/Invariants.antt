use Rattle.std.proofs.Common.{◌≡◌, ◌≤◌, ◌-◌, ◌*◌, ◌^◌, ◌++◌, length, map, take}
use Rattle.hc_net.specs.Bits.{number}
use Rattle.hc_net.specs.Made.{Makes}
use Rattle.hc_bits.specs.Moved.{moved, bit_of, nets_of}
use Rattle.hc_bits.proofs.shift.shift_down.Given as goal

abbrev pub invariant-loop-k : goal.invariant-loop-k
invariant-loop-k l = record {
  places : l.k ≤ length l.y;
  distance : l.distance ≡ 2 ^ l.k;
  width : length l.shifted ≡ length l.x;
  made : Makes (4 * length l.x * l.k) (nets_of l.fill ++ (l.x ++ l.y)) l.fn.b l.b l.shifted (λ v. map v l.shifted ≡ moved (number (take l.k (map v l.y))) (bit_of v l.fill) (map v l.x));
}

abbrev pub decreases-loop-k : goal.decreases-loop-k
decreases-loop-k l = length l.y - l.k
