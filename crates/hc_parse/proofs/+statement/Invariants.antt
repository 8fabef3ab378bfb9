-- A call has fewer tokens left than its caller's, or as many and a lower rank.
use Rattle.std.proofs.Common.{◌+◌, ◌*◌, ◌++◌, false, length}
use Rattle.hc_grammar.specs.Form as f
use Rattle.hc_parse.specs.Turn as turn
use Rattle.hc_parse.proofs.+statement.Given as goal

abbrev pub decreases-block::block : goal.decreases-block::block
decreases-block::block l = 8 * length l.c.now.rest + 0

abbrev pub decreases-block::declared : goal.decreases-block::declared
decreases-block::declared l = 8 * length l.c.now.rest + 2

abbrev pub decreases-block::local_item : goal.decreases-block::local_item
decreases-block::local_item l = 8 * length l.c.now.rest + 1

abbrev pub decreases-block::stmts : goal.decreases-block::stmts
decreases-block::stmts l = 8 * length l.c.now.rest + 3

abbrev pub decreases-conditional::conditional : goal.decreases-conditional::conditional
decreases-conditional::conditional l = 8 * length l.c.now.rest + 0

abbrev pub decreases-conditional::do_stmt : goal.decreases-conditional::do_stmt
decreases-conditional::do_stmt l = 8 * length l.c.now.rest + 0

abbrev pub decreases-conditional::else_tail : goal.decreases-conditional::else_tail
decreases-conditional::else_tail l = 8 * length l.c.now.rest + 0

abbrev pub decreases-conditional::while_stmt : goal.decreases-conditional::while_stmt
decreases-conditional::while_stmt l = 8 * length l.c.now.rest + 0

abbrev pub decreases-for_loop::for_stmt : goal.decreases-for_loop::for_stmt
decreases-for_loop::for_stmt l = 8 * length l.c.now.rest + 0

abbrev pub decreases-macros::macro_item : goal.decreases-macros::macro_item
decreases-macros::macro_item l = 8 * length l.c.now.rest + 0

abbrev pub decreases-macros::macro_proc : goal.decreases-macros::macro_proc
decreases-macros::macro_proc l = 8 * length l.c.now.rest + 0

abbrev pub decreases-macros::macro_tail : goal.decreases-macros::macro_tail
decreases-macros::macro_tail l = 8 * length l.c.now.rest + 1

abbrev pub decreases-ordered::order_tail : goal.decreases-ordered::order_tail
decreases-ordered::order_tail l = 8 * length l.c.now.rest + 1

abbrev pub decreases-ordered::ordered : goal.decreases-ordered::ordered
decreases-ordered::ordered l = 8 * length l.c.now.rest + 0

abbrev pub decreases-ordered::replicator : goal.decreases-ordered::replicator
decreases-ordered::replicator l = 8 * length l.c.now.rest + 0

abbrev pub decreases-prialt::case : goal.decreases-prialt::case
decreases-prialt::case l = 8 * length l.c.now.rest + 0

abbrev pub decreases-prialt::cases : goal.decreases-prialt::cases
decreases-prialt::cases l = 8 * length l.c.now.rest + 2

abbrev pub decreases-prialt::more_cases : goal.decreases-prialt::more_cases
decreases-prialt::more_cases l = 8 * length l.c.now.rest + 1

abbrev pub decreases-prialt::other : goal.decreases-prialt::other
decreases-prialt::other l = 8 * length l.c.now.rest + 0

abbrev pub decreases-prialt::prialt : goal.decreases-prialt::prialt
decreases-prialt::prialt l = 8 * length l.c.now.rest + 0

abbrev pub decreases-statement::marked : goal.decreases-statement::marked
decreases-statement::marked l = 8 * length l.c.now.rest + 1

abbrev pub decreases-statement::stmt : goal.decreases-statement::stmt
decreases-statement::stmt l = 8 * length l.c.now.rest + 2

abbrev pub decreases-switch::arm : goal.decreases-switch::arm
decreases-switch::arm l = 8 * length l.c.now.rest + 4

abbrev pub decreases-switch::arms : goal.decreases-switch::arms
decreases-switch::arms l = 8 * length l.c.now.rest + 5

abbrev pub decreases-switch::switch : goal.decreases-switch::switch
decreases-switch::switch l = 8 * length l.c.now.rest + 0

abbrev pub decreases-block::stmts-each : goal.decreases-block::stmts-each
decreases-block::stmts-each l = length l.c.rest

abbrev pub invariant-block::stmts-each : goal.invariant-block::stmts-each
invariant-block::stmts-each l = turn.GoesOn f.stmts l.initial.c f.stmts (λ more. l.list ++ more) l.c

abbrev pub decreases-block::declared-each : goal.decreases-block::declared-each
decreases-block::declared-each l = length l.c.rest

abbrev pub invariant-block::declared-each : goal.invariant-block::declared-each
invariant-block::declared-each l = turn.GoesOn f.declared l.initial.c f.declared (λ more. l.list ++ more) l.c

abbrev pub decreases-switch::arms-each : goal.decreases-switch::arms-each
decreases-switch::arms-each l = length l.c.rest

abbrev pub invariant-switch::arms-each : goal.invariant-switch::arms-each
invariant-switch::arms-each l = turn.GoesOn (f.arms false) l.initial.c (f.arms l.has_default) (λ more. l.list ++ more) l.c

abbrev pub decreases-prialt::more_cases-each : goal.decreases-prialt::more_cases-each
decreases-prialt::more_cases-each l = length l.c.rest

abbrev pub invariant-prialt::more_cases-each : goal.invariant-prialt::more_cases-each
invariant-prialt::more_cases-each l = turn.GoesOn f.more_cases l.initial.c f.more_cases (λ more. (l.list ++ more.0, more.1)) l.c
