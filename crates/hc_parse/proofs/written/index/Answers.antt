use Rattle.std.proofs.Common.{refl}
use Rattle.hc_grammar.specs.Walk as w
use Rattle.hc_parse.proofs.RowsDeclaration as row
use Rattle.hc_parse.proofs.written.index.Goals as goal

pub returns-then-not-is : goal.returns-then-not-is
returns-then-not-is c = w.finished (w.start c.args.c.now (row.no_index c.args.c.now (c.if-not-is.ensures.no refl))) refl

pub returns-in-Err : goal.returns-in-Err
returns-in-Err c = w.halted (w.mark_passed (w.start c.args.c.now (row.index c.args.c.now (c.if-not-is.ensures.yes refl))) c.take.new.self (c.if-not-is.ensures.yes refl) c.take.ensures.end c.take.ensures.token) c.expr.new.c c.in-Err.halt c.in-Err.ensures

pub returns-in-Err-expect : goal.returns-in-Err-expect
returns-in-Err-expect c = w.refused_mark (w.form_read (w.mark_passed (w.start c.args.c.now (row.index c.args.c.now (c.if-not-is.ensures.yes refl))) c.take.new.self (c.if-not-is.ensures.yes refl) c.take.ensures.end c.take.ensures.token) c.in-Ok.ensures.0 c.in-Ok.ensures.1) c.expect.new.self c.in-Err-expect.halt c.in-Err-expect.ensures

pub returns-in-Ok-expect : goal.returns-in-Ok-expect
returns-in-Ok-expect c = w.finished (w.mark_expected (w.form_read (w.mark_passed (w.start c.args.c.now (row.index c.args.c.now (c.if-not-is.ensures.yes refl))) c.take.new.self (c.if-not-is.ensures.yes refl) c.take.ensures.end c.take.ensures.token) c.in-Ok.ensures.0 c.in-Ok.ensures.1) c.expect.new.self c.in-Ok-expect.ensures) refl
