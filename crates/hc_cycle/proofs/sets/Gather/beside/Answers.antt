use Rattle.hc_cycle.proofs.Ends.{beside_of}
use Rattle.hc_cycle.proofs.sets.Gather.beside.Goals as goal

pub returns : goal.returns
returns c = beside_of c.args.self.now c.union.new.self c.union-2.new.self c.args.zero c.args.a c.args.b c.in_ok-pass.pass c.in_ok-finish.finish c.in_ok-pass.ensures c.in_ok-finish.ensures
