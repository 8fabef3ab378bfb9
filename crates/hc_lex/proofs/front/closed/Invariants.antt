use Rattle.std.proofs.Common.{◌≡◌, ◌+◌, length}
use Rattle.hc_lex.specs.Front.{closed}
use Rattle.hc_lex.proofs.Comment.{behind}
use Rattle.hc_lex.proofs.front.closed.Given as goal

abbrev pub invariant-loop-rest : goal.invariant-loop-rest
invariant-loop-rest l = (closed l.text ≡ behind l.passed (closed l.rest)) × (l.passed + length l.rest ≡ length l.text)

abbrev pub decreases-loop-rest : goal.decreases-loop-rest
decreases-loop-rest l = length l.rest
