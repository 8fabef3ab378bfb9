use Rattle.hc_run.proofs.Sending.{exit_in_second, ok_of_third, err_of_third}
use Rattle.hc_run.proofs.edif.nets.send_net.Goals as goal

pub returns-in_err-send_readers-clause-err : goal.returns-in_err-send_readers-clause-err
returns-in_err-send_readers-clause-err g c =
    exit_in_second _ _ _ c.from_residual-in_err-send_readers.ensures c.in_ok-send_net_head.ensures.ok c.in_err-send_readers.ensures.err

pub returns-clause-ok : goal.returns-clause-ok
returns-clause-ok g c = ok_of_third _ _ _ _ c.net_end.ensures c.in_ok-send_net_head.ensures.ok c.in_ok-send_readers.ensures.ok c.send_piece.ensures.ok

pub returns-clause-err : goal.returns-clause-err
returns-clause-err g c = err_of_third _ _ _ c.net_end.ensures c.in_ok-send_net_head.ensures.ok c.in_ok-send_readers.ensures.ok c.send_piece.ensures.err
