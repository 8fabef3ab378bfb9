use Rattle.hc_muldiv.proofs.LongDivision.{Division}
use Rattle.hc_muldiv.proofs.divide.divide.Given as goal

abbrev pub invariant-loop-done : goal.invariant-loop-done
invariant-loop-done l = Division l.fn.b l.b l.x l.fn.y l.zero l.done l.quotient l.rest
