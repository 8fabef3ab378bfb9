use Rattle.std.proofs.Common.{ap, ◌∙◌}
use Rattle.hc_run.proofs.Sending.{Sent-at, Stopped-at, exit_in_first, exit_in_second, ok_of_third, err_of_third}
use Rattle.std.specs.List.{flat_map}
use Rattle.hc_run.specs.Edif.{each_cell, flop_line, cell_line}
use Rattle.hc_run.proofs.edif.send_instances.Goals as goal

pub returns-in_err-send_piece-clause-err : goal.returns-in_err-send_piece-clause-err
returns-in_err-send_piece-clause-err g c = exit_in_first _ _ _ _ _ c.from_residual.ensures c.contents.ensures c.in_err-send_piece.ensures.err

pub returns-in_err-send_flop_lines-clause-err : goal.returns-in_err-send_flop_lines-clause-err
returns-in_err-send_flop_lines-clause-err g c =
    exit_in_second _ _ _ c.from_residual-in_err-send_flop_lines.ensures (Sent-at c.contents.ensures c.in_ok-send_piece.ensures.ok) (Stopped-at _ (ap (flat_map flop_line) c.as_slice.ensures) c.in_err-send_flop_lines.ensures.err)

pub returns-clause-ok : goal.returns-clause-ok
returns-clause-ok g c = ok_of_third _ _ _ _ (ap (each_cell cell_line c.args.first) c.as_slice-2.ensures ∙ ap (λ n. each_cell cell_line n c.args.net.now.cells) c.requires.first) (Sent-at c.contents.ensures c.in_ok-send_piece.ensures.ok) (Sent-at (ap (flat_map flop_line) c.as_slice.ensures) c.in_ok-send_flop_lines.ensures.ok) c.send_cell_lines.ensures.ok

pub returns-clause-err : goal.returns-clause-err
returns-clause-err g c = err_of_third _ _ _ (ap (each_cell cell_line c.args.first) c.as_slice-2.ensures ∙ ap (λ n. each_cell cell_line n c.args.net.now.cells) c.requires.first) (Sent-at c.contents.ensures c.in_ok-send_piece.ensures.ok) (Sent-at (ap (flat_map flop_line) c.as_slice.ensures) c.in_ok-send_flop_lines.ensures.ok) c.send_cell_lines.ensures.err
