use Rattle.std.proofs.Common.{◌≡◌, take}
use Rattle.hc_ram.specs.Enabled.{column_nets}
use Rattle.hc_ram.proofs.enabled.column.Given as goal

abbrev pub invariant-loop-value : goal.invariant-loop-value
invariant-loop-value l = l.nets ≡ column_nets (take l.value-index l.values) l.i
