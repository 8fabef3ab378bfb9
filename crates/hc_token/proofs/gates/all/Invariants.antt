use Rattle.std.proofs.Common.{◌≡◌, ◌<◌, ℕ, ◌*◌, ◌+◌, length, map, drop, get_or}
use Rattle.hc_net.specs.Made.{Makes}
use Rattle.hc_token.specs.Circuits.{every}
use Rattle.hc_token.specs.Control.{IsNever}
use Rattle.hc_token.proofs.Joined.{OneIsNever}
use Rattle.hc_token.proofs.gates.all.Given as goal

abbrev pub invariant-loop-i : goal.invariant-loop-i
invariant-loop-i l = record {
  width : length l.nets ≡ length l.x + l.i;
  made : Makes l.i l.x l.initial.b l.b l.nets (λ v. every (drop (2 * l.i) (map v l.nets)) ≡ every (map v l.x));
  never : (k : ℕ) → k < length l.x → IsNever l.initial.b.nodes (get_or l.x k 0) → OneIsNever l.b.nodes l.nets (2 * l.i);
}
