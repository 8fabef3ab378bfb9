use Rattle.hc_stim.proofs.Fields.{Reading}
use Rattle.hc_stim.proofs.line.read_fields.Given as goal

abbrev pub invariant-loop-i : goal.invariant-loop-i
invariant-loop-i l = Reading l.widths l.fn.bytes l.i l.fn.values.items l.values.items l.rest
