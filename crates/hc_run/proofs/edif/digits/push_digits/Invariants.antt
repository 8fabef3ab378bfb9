use Rattle.std.proofs.Common.{◌++◌}
use Rattle.hc_run.specs.Edif.{digits_of, hex_text}
use Rattle.hc_run.proofs.Adding.{IsAdding}
use Rattle.hc_run.proofs.edif.digits.push_digits.Given as goal

abbrev pub invariant-loop-i : goal.invariant-loop-i
invariant-loop-i l = IsAdding (l.fn.text.items ++ hex_text l.bits) l.text.items (digits_of l.bits l.i)
