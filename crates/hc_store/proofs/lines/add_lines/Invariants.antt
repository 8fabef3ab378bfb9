use Rattle.hc_store.proofs.Added.{WithFirst}
use Rattle.hc_store.proofs.lines.add_lines.Given as goal

abbrev pub invariant-loop-i : goal.invariant-loop-i
invariant-loop-i l = WithFirst l.nets l.write l.i l.initial.lines.items l.lines.items
