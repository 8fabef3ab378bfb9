use Rattle.std.proofs.Common.{arith}
use Rattle.hc_run.proofs.CellLists.{all_cells}
use Rattle.hc_run.proofs.cells.gate_count.Goals as goal

pub overflow_sub-result : goal.overflow_sub-result
overflow_sub-result c = let all = all_cells c.args.cells.now in omega arith

pub returns : goal.returns
returns c = let all = all_cells c.args.cells.now in omega arith
