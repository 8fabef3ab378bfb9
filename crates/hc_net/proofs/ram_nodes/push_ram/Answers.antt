use Rattle.std.proofs.lemmas.Result.{on_err_weaker}
use Rattle.hc_net.proofs.MadeRams.{front_thrice}
use Rattle.hc_net.proofs.ram_nodes.push_ram.Goals as goal

pub returns-in-Ok-clause-err : goal.returns-in-Ok-clause-err
returns-in-Ok-clause-err c = on_err_weaker c.push_bits.result (front_thrice c.args.nodes.now c.push_wires.new.nodes c.push_wires-2.new.nodes c.push.new.self c.push_bits.new.nodes _ _ _ c.in_ok-push_wires.ensures.ok c.in_ok-push_wires-2.ensures.ok c.in-Ok.ensures.ok) c.push_bits.ensures.err
