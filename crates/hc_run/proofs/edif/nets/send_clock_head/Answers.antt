use Rattle.std.specs.List.{flat_map}
use Rattle.hc_run.specs.Pins.{clock_part}
use Rattle.hc_run.proofs.Sending.{Sent-at, exit_in_first_of_two, ok_of_second, err_of_second}
use Rattle.hc_run.proofs.edif.nets.send_clock_head.Goals as goal

pub returns-in_err-send_piece-clause-err : goal.returns-in_err-send_piece-clause-err
returns-in_err-send_piece-clause-err g c = exit_in_first_of_two _ _ (flat_map clock_part c.args.flops.now) _ c.from_residual.ensures c.clock_head.ensures c.in_err-send_piece.ensures.err

pub returns-clause-ok : goal.returns-clause-ok
returns-clause-ok g c = ok_of_second _ _ _ _ (Sent-at c.clock_head.ensures c.in_ok-send_piece.ensures.ok) c.send_flop_clocks.ensures.ok

pub returns-clause-err : goal.returns-clause-err
returns-clause-err g c = err_of_second _ _ _ (Sent-at c.clock_head.ensures c.in_ok-send_piece.ensures.ok) c.send_flop_clocks.ensures.err
