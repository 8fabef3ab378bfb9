-- A call has fewer tokens left than its caller's, or as many and a lower rank.
use Rattle.std.proofs.Common.{◌+◌, ◌*◌, length}
use Rattle.hc_exparse.proofs.More.{Went}
use Rattle.hc_exparse.proofs.+expr.Given as goal

abbrev pub decreases-binary::binary : goal.decreases-binary::binary
decreases-binary::binary l = 32 * length l.c.now.rest + (l.level + 4)

abbrev pub decreases-binary::binary_tail : goal.decreases-binary::binary_tail
decreases-binary::binary_tail l = 32 * length l.c.now.rest + 0

abbrev pub decreases-expression::choice_tail : goal.decreases-expression::choice_tail
decreases-expression::choice_tail l = 32 * length l.c.now.rest + 0

abbrev pub decreases-expression::expr_before : goal.decreases-expression::expr_before
decreases-expression::expr_before l = 32 * length l.c.now.rest + 21

abbrev pub decreases-expression::whole : goal.decreases-expression::whole
decreases-expression::whole l = 32 * length l.c.now.rest + 20

abbrev pub decreases-list::args : goal.decreases-list::args
decreases-list::args l = 32 * length l.c.now.rest + 22

abbrev pub decreases-list::more_exprs : goal.decreases-list::more_exprs
decreases-list::more_exprs l = 32 * length l.c.now.rest + 0

abbrev pub decreases-postfix::bits_tail : goal.decreases-postfix::bits_tail
decreases-postfix::bits_tail l = 32 * length l.c.now.rest + 0

abbrev pub decreases-postfix::postfix_tail : goal.decreases-postfix::postfix_tail
decreases-postfix::postfix_tail l = 32 * length l.c.now.rest + 0

abbrev pub decreases-primary::name_tail : goal.decreases-primary::name_tail
decreases-primary::name_tail l = 32 * length l.c.now.rest + 0

abbrev pub decreases-primary::primary : goal.decreases-primary::primary
decreases-primary::primary l = 32 * length l.c.now.rest + 2

abbrev pub decreases-primary::select : goal.decreases-primary::select
decreases-primary::select l = 32 * length l.c.now.rest + 1

abbrev pub decreases-primary::width : goal.decreases-primary::width
decreases-primary::width l = 32 * length l.c.now.rest + 1

abbrev pub decreases-types::size : goal.decreases-types::size
decreases-types::size l = 32 * length l.c.now.rest + 0

abbrev pub decreases-types::type_of : goal.decreases-types::type_of
decreases-types::type_of l = 32 * length l.c.now.rest + 1

abbrev pub decreases-unary::cast : goal.decreases-unary::cast
decreases-unary::cast l = 32 * length l.c.now.rest + 22

abbrev pub decreases-unary::operand : goal.decreases-unary::operand
decreases-unary::operand l = 32 * length l.c.now.rest + 1

abbrev pub decreases-unary::paren_tail : goal.decreases-unary::paren_tail
decreases-unary::paren_tail l = 32 * length l.c.now.rest + 23

abbrev pub decreases-unary::unary : goal.decreases-unary::unary
decreases-unary::unary l = 32 * length l.c.now.rest + 3

abbrev pub decreases-list::more_exprs-each : goal.decreases-list::more_exprs-each
decreases-list::more_exprs-each l = length l.c.rest

abbrev pub invariant-list::more_exprs-each : goal.invariant-list::more_exprs-each
invariant-list::more_exprs-each l = Went l.initial.c l.initial.list l.c l.list
