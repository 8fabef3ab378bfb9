use Rattle.std.proofs.Common.{◌≡◌, drop, ◌+◌}
use Rattle.hc_net.specs.Run.{cell_nets}
use Rattle.hc_run.specs.Edif.{cell_line, each_cell}
use Rattle.hc_run.proofs.Sending.{IsSending}
use Rattle.hc_run.proofs.edif.instances.send_cell_lines.Given as goal

abbrev pub invariant-loop-cell : goal.invariant-loop-cell
invariant-loop-cell g l = let rest = drop l.cell-index l.cells in record {
  net : l.net + cell_nets rest ≡ l.first + cell_nets l.cells;
  sending :
      IsSending (each_cell cell_line l.first l.cells) (each_cell cell_line l.net rest)
      l.fn.text.items l.text.items (g.K.Sink.state l.fn.out) (g.K.Sink.state l.out);
}
