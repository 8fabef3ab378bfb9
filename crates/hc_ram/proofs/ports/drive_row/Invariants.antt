use Rattle.hc_ram.proofs.Driven.{Driven}
use Rattle.hc_ram.proofs.ports.drive_row.Given as goal

abbrev pub invariant-loop-i : goal.invariant-loop-i
invariant-loop-i l = Driven l.first l.sources l.i l.initial.b l.b
