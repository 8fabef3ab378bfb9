use Rattle.hc_cycle.proofs.Ends.{decided_of}
use Rattle.hc_cycle.proofs.sets.Gather.decided.Goals as goal

pub returns : goal.returns
returns c = decided_of c.args.self.now c.union.new.self c.args.read c.in_ok-pass.pass c.where_it.result c.args.ends c.in_ok-pass.ensures c.where_it.ensures.yes c.where_it.ensures.no
