use Rattle.std.proofs.Common.{refl}
use Rattle.hc_run.proofs.Sending.{exit_in_first, exit_in_second, ok_of_third, err_of_third, ok_at, err_at}
use Rattle.hc_run.specs.Pins.{interface_text, instances_text, nets_text}
use Rattle.hc_run.proofs.NetText.{edif-is}
use Rattle.hc_run.proofs.edif.send_edif.Goals as goal

pub returns-in_err-send_interface-clause-err : goal.returns-in_err-send_interface-clause-err
returns-in_err-send_interface-clause-err g c = err_at _ _ _ _ (edif-is c.args.net.now) (exit_in_first c.args.text.now.items (interface_text c.args.net.now) (instances_text c.args.net.now) (nets_text c.args.net.now) _ c.from_residual.ensures refl c.in_err-send_interface.ensures.err)

pub returns-in_err-send_instances-clause-err : goal.returns-in_err-send_instances-clause-err
returns-in_err-send_instances-clause-err g c =
    err_at _ _ _ _ (edif-is c.args.net.now) (exit_in_second _ _ _ c.from_residual-in_err-send_instances.ensures c.in_ok-send_interface.ensures.ok c.in_err-send_instances.ensures.err)

pub returns-clause-ok : goal.returns-clause-ok
returns-clause-ok g c = ok_at _ _ _ _ _ (edif-is c.args.net.now) (ok_of_third _ _ _ _ refl c.in_ok-send_interface.ensures.ok c.in_ok-send_instances.ensures.ok c.send_all_nets.ensures.ok)

pub returns-clause-err : goal.returns-clause-err
returns-clause-err g c = err_at _ _ _ _ (edif-is c.args.net.now) (err_of_third _ _ _ refl c.in_ok-send_interface.ensures.ok c.in_ok-send_instances.ensures.ok c.send_all_nets.ensures.err)
