use Rattle.hc_muldiv.proofs.RowCircuit.{Row}
use Rattle.hc_muldiv.proofs.multiply.row.Given as goal

abbrev pub invariant-loop-net : goal.invariant-loop-net
invariant-loop-net l = Row l.fn.b l.b l.x l.bit l.net-index l.products
