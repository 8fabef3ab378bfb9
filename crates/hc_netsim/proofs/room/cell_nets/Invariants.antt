use Rattle.std.proofs.Common.{◌≡◌, ◌+◌, drop}
use Rattle.hc_net.specs.Run.{cell_nets}
use Rattle.hc_netsim.proofs.room.cell_nets.Given as goal

abbrev pub invariant-loop-cell : goal.invariant-loop-cell
invariant-loop-cell l = l.nets + cell_nets (drop l.cell-index l.cells) ≡ cell_nets l.cells
