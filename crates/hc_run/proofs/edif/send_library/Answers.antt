use Rattle.std.proofs.Common.{ap}
use Rattle.hc_run.specs.Edif.{ram_cell_lines}
use Rattle.hc_run.proofs.Sending.{Sent-at, Stopped-at, exit_in_first, exit_in_second, ok_of_third, err_of_third}
use Rattle.hc_run.proofs.edif.send_library.Goals as goal

pub returns-in_err-send_piece-clause-err : goal.returns-in_err-send_piece-clause-err
returns-in_err-send_piece-clause-err g c = exit_in_first _ _ _ _ _ c.from_residual.ensures c.head.ensures c.in_err-send_piece.ensures.err

pub returns-in_err-send_ram_cells-clause-err : goal.returns-in_err-send_ram_cells-clause-err
returns-in_err-send_ram_cells-clause-err g c =
    exit_in_second _ _ _ c.from_residual-in_err-send_ram_cells.ensures (Sent-at c.head.ensures c.in_ok-send_piece.ensures.ok) (Stopped-at _ (ap ram_cell_lines c.as_slice.ensures) c.in_err-send_ram_cells.ensures.err)

pub returns-clause-ok : goal.returns-clause-ok
returns-clause-ok g c =
    ok_of_third _ _ _ _ c.main_cell.ensures (Sent-at c.head.ensures c.in_ok-send_piece.ensures.ok) (Sent-at (ap ram_cell_lines c.as_slice.ensures) c.in_ok-send_ram_cells.ensures.ok) c.send_piece-2.ensures.ok

pub returns-clause-err : goal.returns-clause-err
returns-clause-err g c =
    err_of_third _ _ _ c.main_cell.ensures (Sent-at c.head.ensures c.in_ok-send_piece.ensures.ok) (Sent-at (ap ram_cell_lines c.as_slice.ensures) c.in_ok-send_ram_cells.ensures.ok) c.send_piece-2.ensures.err
