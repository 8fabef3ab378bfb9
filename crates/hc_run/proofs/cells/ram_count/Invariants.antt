use Rattle.std.proofs.Common.{◌≡◌, ◌+◌, ◌≤◌, drop}
use Rattle.hc_net.specs.Run.{ram_count}
use Rattle.hc_run.proofs.cells.ram_count.Given as goal

abbrev pub invariant-loop-cell : goal.invariant-loop-cell
invariant-loop-cell l = l.count + ram_count (drop l.cell-index l.cells) ≡ ram_count l.cells
