use Rattle.hc_outside.proofs.Seen.{IsSeen}
use Rattle.hc_outside.proofs.mem_files.place.Given as goal

abbrev pub invariant-loop-i : goal.invariant-loop-i
invariant-loop-i l = IsSeen l.files l.name l.i
