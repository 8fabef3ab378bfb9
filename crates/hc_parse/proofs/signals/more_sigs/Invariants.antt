use Rattle.std.proofs.Common.{length}
use Rattle.hc_grammar.specs.Form as f
use Rattle.hc_parse.proofs.More.{Went}
use Rattle.hc_parse.proofs.signals.more_sigs.Given as goal

abbrev pub decreases-each : goal.decreases-each
decreases-each l = length l.c.rest

abbrev pub invariant-each : goal.invariant-each
invariant-each l = Went f.more_sigs (λ more. more) l.initial.c l.initial.list l.c l.list
