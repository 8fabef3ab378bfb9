use Rattle.std.proofs.Common.{refl}
use Rattle.hc_cycle.proofs.Unions.{needed}
use Rattle.hc_cycle.proofs.sets.Gather.need.Goals as goal

pub returns-in-Ok : goal.returns-in-Ok
returns-in-Ok c = needed c.args.self.now (record c.args.self.now { needs = c.push.new.self }) c.args.node c.args.on refl c.in-Ok.ensures.ok
