use Rattle.hc_cycle.proofs.Cycles.{cycle_or_none}
use Rattle.hc_cycle.proofs.laws.cycle_or_none.Goals as goal

pub returns : goal.returns
returns c = λ core. cycle_or_none core
