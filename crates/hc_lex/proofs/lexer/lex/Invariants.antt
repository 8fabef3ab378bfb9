use Rattle.std.proofs.Common.{length}
use Rattle.hc_lex.proofs.Reached.{Reached}
use Rattle.hc_lex.proofs.lexer.lex.Given as goal

abbrev pub invariant-loop-list : goal.invariant-loop-list
invariant-loop-list l = Reached l.fn.bytes l.place l.rest l.list

abbrev pub decreases-loop-list : goal.decreases-loop-list
decreases-loop-list l = length l.rest
