use Rattle.std.proofs.Common.{refl}
use Rattle.hc_grammar.specs.Walk as w
use Rattle.hc_parse.proofs.RowsDeclaration as row
use Rattle.hc_parse.proofs.variables.var_tail.Goals as goal

pub returns-then-not-init : goal.returns-then-not-init
returns-then-not-init c = w.finished_to (w.start c.args.c.now (row.no_value c.args.init c.args.c.now c.if-not-init.true (c.if-is.ensures.no refl))) refl

pub returns-then-not-is : goal.returns-then-not-is
returns-then-not-is c = w.finished_to (w.start c.args.c.now (row.no_assigned c.args.init c.args.c.now c.if-not-init.false (c.if-is.ensures.no refl) (c.if-not-is.ensures.no refl))) refl

pub returns-in-Err : goal.returns-in-Err
returns-in-Err c = w.halted (w.mark_passed (w.start c.args.c.now (row.value_of c.args.init c.args.c.now c.if-not-init.false (c.if-not-is.ensures.yes refl))) c.take.new.self (c.if-not-is.ensures.yes refl) c.take.ensures.end c.take.ensures.token) c.expr.new.c c.in-Err.halt c.in-Err.ensures

pub returns-in-Ok : goal.returns-in-Ok
returns-in-Ok c = w.finished_to (w.form_read (w.mark_passed (w.start c.args.c.now (row.value_of c.args.init c.args.c.now c.if-not-init.false (c.if-not-is.ensures.yes refl))) c.take.new.self (c.if-not-is.ensures.yes refl) c.take.ensures.end c.take.ensures.token) c.in-Ok.ensures.0 c.in-Ok.ensures.1) refl
