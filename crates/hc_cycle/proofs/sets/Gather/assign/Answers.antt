use Rattle.hc_core.specs.Read.{expression, target}
use Rattle.hc_cycle.proofs.Visiting.{assign_of}
use Rattle.hc_cycle.proofs.sets.Gather.assign.Goals as goal

pub returns : goal.returns
returns c place = rw c.no_end.ensures (assign_of c.args.self.now c.target.new.self c.read.new.self c.signal.new.self c.args.start c.in_ok-read.read (target c.args.to.now) (expression c.args.value.now) place
    c.in_ok-target.ensures c.in_ok-read.ensures c.in_ok-signal.ensures)
