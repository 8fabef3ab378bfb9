use Rattle.hc_run.proofs.Sending.{exit_in_first, exit_in_second, ok_of_third, err_of_third}
use Rattle.std.proofs.Common.{refl, ◌++◌}
use Rattle.std.specs.List.{flat_map}
use Rattle.hc_net.specs.Run.{rams_of}
use Rattle.hc_run.specs.Pins.{clock_head, clock_part, ram_clock_part, net_end}
use Rattle.hc_run.proofs.edif.nets.send_clock_net.Goals as goal

pub returns-in_err-send_clock_head-clause-err : goal.returns-in_err-send_clock_head-clause-err
returns-in_err-send_clock_head-clause-err g c = exit_in_first c.args.text.now.items (clock_head ++ flat_map clock_part c.args.flops.now) (flat_map ram_clock_part (rams_of c.args.cells.now)) net_end _ c.from_residual.ensures refl c.in_err-send_clock_head.ensures.err

pub returns-in_err-send_ram_clocks-clause-err : goal.returns-in_err-send_ram_clocks-clause-err
returns-in_err-send_ram_clocks-clause-err g c =
    exit_in_second _ _ _ c.from_residual-in_err-send_ram_clocks.ensures c.in_ok-send_clock_head.ensures.ok c.in_err-send_ram_clocks.ensures.err

pub returns-clause-ok : goal.returns-clause-ok
returns-clause-ok g c = ok_of_third _ _ _ _ c.net_end.ensures c.in_ok-send_clock_head.ensures.ok c.in_ok-send_ram_clocks.ensures.ok c.send_piece.ensures.ok

pub returns-clause-err : goal.returns-clause-err
returns-clause-err g c = err_of_third _ _ _ c.net_end.ensures c.in_ok-send_clock_head.ensures.ok c.in_ok-send_ram_clocks.ensures.ok c.send_piece.ensures.err
