use Rattle.hc_core.specs.Read.{target}
use Rattle.hc_cycle.proofs.Visiting.{receive_of}
use Rattle.hc_cycle.proofs.sets.Gather.receive.Goals as goal

pub returns : goal.returns
returns c place = rw c.no_end.ensures (receive_of c.args.self.now c.need.new.self c.target.new.self c.args.start c.args.chan (target c.args.to.now) place c.in_ok-need.ensures c.in_ok-target.ensures)
