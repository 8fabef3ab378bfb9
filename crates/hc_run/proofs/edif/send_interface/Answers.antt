use Rattle.std.proofs.Common.{ap, refl}
use Rattle.hc_run.proofs.Sending.{exit_in_first, exit_in_second, ok_of_third, err_of_third}
use Rattle.hc_run.specs.Edif.{each_from, clock_line, port_lines}
use Rattle.hc_run.specs.Pins.{library_text}
use Rattle.hc_run.proofs.edif.send_interface.Goals as goal

pub returns-in_err-send_library-clause-err : goal.returns-in_err-send_library-clause-err
returns-in_err-send_library-clause-err g c = exit_in_first c.args.text.now.items (library_text c.args.net.now) (clock_line c.args.net.now.clock) (each_from port_lines 0 c.args.net.now.ports) _ c.from_residual.ensures refl c.in_err-send_library.ensures.err

pub returns-in_err-send_clock_line-clause-err : goal.returns-in_err-send_clock_line-clause-err
returns-in_err-send_clock_line-clause-err g c =
    exit_in_second _ _ _ c.from_residual-in_err-send_clock_line.ensures c.in_ok-send_library.ensures.ok c.in_err-send_clock_line.ensures.err

pub returns-clause-ok : goal.returns-clause-ok
returns-clause-ok g c = ok_of_third _ _ _ _ (ap (each_from port_lines 0) c.as_slice.ensures) c.in_ok-send_library.ensures.ok c.in_ok-send_clock_line.ensures.ok c.send_port_lines.ensures.ok

pub returns-clause-err : goal.returns-clause-err
returns-clause-err g c = err_of_third _ _ _ (ap (each_from port_lines 0) c.as_slice.ensures) c.in_ok-send_library.ensures.ok c.in_ok-send_clock_line.ensures.ok c.send_port_lines.ensures.err
