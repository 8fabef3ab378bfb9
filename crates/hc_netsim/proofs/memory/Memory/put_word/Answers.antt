use Rattle.std.proofs.Common.{◌≤◌, ◌+◌, sym, subst, length, take}
use Rattle.hc_net.specs.Run.{net_bit}
use Rattle.hc_netsim.specs.Held.{Held}
use Rattle.hc_netsim.proofs.Words.{put_outside}
use Rattle.hc_netsim.proofs.memory.Memory.put_word.Goals as goal

pub returns-in-None-clause-word : goal.returns-in-None-clause-word
returns-in-None-clause-word c =
    let m : Held = record { ram = c.self.inside.ram.now; bits = c.self.inside.bits.items } in
    let within = subst (λ (x : Held). c.args.net + x.ram.width ≤ length c.args.values.now) (sym c.self.view_is) c.requires.nets in
    rw (← c.self.view_is) (put_outside m (net_bit (take c.args.net c.args.values.now)) c.args.net c.args.values.now c.put_zeros.new.bits c.self.invariant.bits c.in-None.ensures c.put_zeros.ensures within)
