use Rattle.hc_run.proofs.Sending.{Sent-at, exit_in_first, exit_in_second, ok_of_third, err_of_third}
use Rattle.hc_run.proofs.NetText.{clock_of}
use Rattle.hc_run.proofs.edif.send_all_nets.Goals as goal

pub returns-in_err-send_clock_net-clause-err : goal.returns-in_err-send_clock_net-clause-err
returns-in_err-send_clock_net-clause-err g c = exit_in_first _ _ _ _ _ c.from_residual.ensures (clock_of c.args.net.now c.as_slice.ensures c.as_slice-2.ensures) c.in_err-send_clock_net.ensures.err

pub returns-in_err-send_numbered_nets-clause-err : goal.returns-in_err-send_numbered_nets-clause-err
returns-in_err-send_numbered_nets-clause-err g c =
    exit_in_second _ _ _ c.from_residual-in_err-send_numbered_nets.ensures (Sent-at (clock_of c.args.net.now c.as_slice.ensures c.as_slice-2.ensures) c.in_ok-send_clock_net.ensures.ok) c.in_err-send_numbered_nets.ensures.err

pub returns-clause-ok : goal.returns-clause-ok
returns-clause-ok g c = ok_of_third _ _ _ _ c.tail.ensures (Sent-at (clock_of c.args.net.now c.as_slice.ensures c.as_slice-2.ensures) c.in_ok-send_clock_net.ensures.ok) c.in_ok-send_numbered_nets.ensures.ok c.send_piece.ensures.ok

pub returns-clause-err : goal.returns-clause-err
returns-clause-err g c = err_of_third _ _ _ c.tail.ensures (Sent-at (clock_of c.args.net.now c.as_slice.ensures c.as_slice-2.ensures) c.in_ok-send_clock_net.ensures.ok) c.in_ok-send_numbered_nets.ensures.ok c.send_piece.ensures.err
