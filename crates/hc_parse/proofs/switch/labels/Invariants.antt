use Rattle.std.proofs.Common.{length}
use Rattle.hc_grammar.specs.Form as f
use Rattle.hc_parse.specs.Turn as turn
use Rattle.hc_parse.proofs.switch.labels.Given as goal

abbrev pub decreases-each : goal.decreases-each
decreases-each l = length l.c.rest

abbrev pub invariant-each : goal.invariant-each
invariant-each l = turn.GoesOn (f.arm_tail l.initial.has_default) l.initial.c (f.arm_tail l.has_default) (turn.with_labels l.list) l.c
