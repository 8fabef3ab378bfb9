use Rattle.hc_netsim.proofs.Passes.{states}
use Rattle.hc_netsim.proofs.laws.runs_as_netlist.Goals as goal

pub returns-clause-state : goal.returns-clause-state
returns-clause-state c = states
