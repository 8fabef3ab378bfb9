use Rattle.std.proofs.Common.{◌≡◌, take}
use Rattle.hc_store.specs.Lines.{values_of}
use Rattle.hc_store.proofs.array.line_values.Given as goal

abbrev pub invariant-loop-line : goal.invariant-loop-line
invariant-loop-line l = l.written.items ≡ values_of l.values (take l.line-index l.lines)
