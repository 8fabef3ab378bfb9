use Rattle.hc_core.specs.Read.{expression}
use Rattle.hc_cycle.proofs.Visiting.{send_of}
use Rattle.hc_cycle.proofs.sets.Gather.send.Goals as goal

pub returns : goal.returns
returns c place = rw c.no_end.ensures (send_of c.args.self.now c.need.new.self c.read.new.self c.args.start c.in_ok-read.field-0 c.args.chan (expression c.args.value.now) place c.in_ok-need.ensures c.in_ok-read.ensures)
