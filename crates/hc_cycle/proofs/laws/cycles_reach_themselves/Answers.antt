use Rattle.hc_cycle.proofs.Cycles.{names_cyclic}
use Rattle.hc_cycle.proofs.laws.cycles_reach_themselves.Goals as goal

pub returns : goal.returns
returns c = λ core refusal. names_cyclic core refusal
