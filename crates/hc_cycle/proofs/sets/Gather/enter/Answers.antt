use Rattle.std.proofs.Common.{refl}
use Rattle.hc_cycle.proofs.Unions.{entered}
use Rattle.hc_cycle.proofs.sets.Gather.enter.Goals as goal

pub returns-in-Ok : goal.returns-in-Ok
returns-in-Ok c = rw c.len-at.ensures (entered c.args.self.now (record c.args.self.now { table = c.push.new.self }) c.args.a c.args.b c.in-Ok.ensures.ok refl)
