use Rattle.std.proofs.Common.{◌≡◌, ◌≤◌, ◌^◌, ◌+◌, ◌∙◌, ℕ, sym, ap, arith, map, subst}
use Rattle.hc_net.proofs.MadeRams.{built_ram, extends_ram, value_ram}
use Rattle.hc_net.proofs.builder.Builder.ram.Goals as goal

pub invariant_of-self-2 : goal.invariant_of-self-2
invariant_of-self-2 c = (c.self.invariant.0, built_ram _ c.args.self.now c.args.object c.args.words c.args.width c.args.rank c.len-net.result c.aw.result c.aw-2.result c.args.init.now c.in_ok-from_slice.field-0 c.in_ok-run_of_nets.field-0 c.in_ok-run_of_nets-2.field-0 c.in_ok-ram.ram c.add_ram.new.nodes c.self.view_is c.len-net.ensures c.aw.ensures.width c.aw-2.ensures.width (c.in_ok-from_slice.ensures ∙ c.as_slice.ensures) c.in_ok-run_of_nets.ensures c.in_ok-run_of_nets-2.ensures c.in_ok-ram.ensures c.in_ok-add_ram.ensures.ok c.self.invariant.1 c.requires.width (omega arith) c.requires.room)

pub returns-clause-earlier : goal.returns-clause-earlier
returns-clause-earlier c = extends_ram _ c.args.self.now c.args.object c.args.words c.args.width c.args.rank c.len-net.result c.aw.result c.aw-2.result c.args.init.now c.in_ok-from_slice.field-0 c.in_ok-run_of_nets.field-0 c.in_ok-run_of_nets-2.field-0 c.in_ok-ram.ram c.add_ram.new.nodes c.self.view_is c.len-net.ensures c.aw.ensures.width c.aw-2.ensures.width (c.in_ok-from_slice.ensures ∙ c.as_slice.ensures) c.in_ok-run_of_nets.ensures c.in_ok-run_of_nets-2.ensures c.in_ok-ram.ensures c.in_ok-add_ram.ensures.ok c.self.invariant.1 c.requires.width (omega arith) c.requires.room

pub returns-clause-value : goal.returns-clause-value
returns-clause-value c trace h e t = value_ram _ c.args.self.now c.args.object c.args.words c.args.width c.args.rank c.len-net.result c.aw.result c.aw-2.result c.args.init.now c.in_ok-from_slice.field-0 c.in_ok-run_of_nets.field-0 c.in_ok-run_of_nets-2.field-0 c.in_ok-ram.ram c.add_ram.new.nodes c.self.view_is c.len-net.ensures c.aw.ensures.width c.aw-2.ensures.width (c.in_ok-from_slice.ensures ∙ c.as_slice.ensures) c.in_ok-run_of_nets.ensures c.in_ok-run_of_nets-2.ensures c.in_ok-ram.ensures c.in_ok-add_ram.ensures.ok c.self.invariant.1 c.requires.width (omega arith) c.requires.room c.in_ok-run_of_nets-3.field-0 c.in_ok-run_of_nets-3.ensures trace h e t
