use Rattle.hc_parse.specs.Stack.{role_of}
use Rattle.hc_parse.proofs.Nestings.{Reached}
use Rattle.hc_parse.proofs.nesting.check_nesting.Given as goal

abbrev pub invariant-loop-i : goal.invariant-loop-i
invariant-loop-i l = Reached l.list l.i (role_of l.before) (role_of l.role) l.levels
