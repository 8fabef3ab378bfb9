use Rattle.std.proofs.Common.{length}
use Rattle.hc_parse.proofs.WalksItem.{Went}
use Rattle.hc_parse.proofs.source.items.Given as goal

abbrev pub decreases-each : goal.decreases-each
decreases-each l = length l.c.rest

abbrev pub invariant-each : goal.invariant-each
invariant-each l = Went l.initial.c l.initial.list l.c l.list
