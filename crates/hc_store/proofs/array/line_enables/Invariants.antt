use Rattle.std.proofs.Common.{◌≡◌, take}
use Rattle.hc_store.specs.Lines.{enables_of}
use Rattle.hc_store.proofs.array.line_enables.Given as goal

abbrev pub invariant-loop-line : goal.invariant-loop-line
invariant-loop-line l = l.nets ≡ enables_of (take l.line-index l.lines)
