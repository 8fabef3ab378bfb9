use Rattle.hc_store.proofs.Elements.{HeldElements}
use Rattle.hc_store.proofs.array.hold_elements.Given as goal

abbrev pub invariant-loop-j : goal.invariant-loop-j
invariant-loop-j l = HeldElements l.width l.q l.lines l.values l.j l.fn.b l.b l.next
