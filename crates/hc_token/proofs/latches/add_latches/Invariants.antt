use Rattle.std.proofs.Common.{◌≡◌, length}
use Rattle.std.specs.List.{range_with_len}
use Rattle.hc_token.specs.Latches.{with_latches}
use Rattle.hc_token.proofs.latches.add_latches.Given as goal

abbrev pub invariant-loop-i : goal.invariant-loop-i
invariant-loop-i l = record {
  nets : l.latches ≡ range_with_len (length l.initial.b.nodes) l.i;
  adds : l.b ≡ with_latches l.initial.b l.token l.i;
}
