use Rattle.hc_store.proofs.Enabled.{Enabled}
use Rattle.hc_store.proofs.lines.each_enabled.Given as goal

abbrev pub invariant-loop-term : goal.invariant-loop-term
invariant-loop-term l = Enabled l.fn.b l.b l.enable l.terms l.term-index l.nets
