use Rattle.std.proofs.Common.{None, refl}
use Rattle.hc_grammar.specs.Walk as w
use Rattle.hc_parse.proofs.RowsStatement as row
use Rattle.hc_parse.proofs.prialt.offer.Goals as goal

pub returns-in-Err : goal.returns-in-Err
returns-in-Err c = w.halted (w.mark_passed (w.start c.args.c.now (row.offer_send_row c.args.c.now (c.if-is.ensures.yes refl))) c.take.new.self (c.if-is.ensures.yes refl) c.take.ensures.end c.take.ensures.token) c.expr.new.c c.in-Err.halt c.in-Err.ensures

pub returns-in-Ok : goal.returns-in-Ok
returns-in-Ok c = w.finished (w.form_read (w.mark_passed (w.start c.args.c.now (row.offer_send_row c.args.c.now (c.if-is.ensures.yes refl))) c.take.new.self (c.if-is.ensures.yes refl) c.take.ensures.end c.take.ensures.token) c.in-Ok.ensures.0 c.in-Ok.ensures.1) refl

pub returns-then-not-is : goal.returns-then-not-is
returns-then-not-is c = w.refused_front (row.no_offer c.args.c.now (c.if-is.ensures.no refl) (c.if-not-is.ensures.no refl)) c.args.c.now refl None

pub returns-in-Ok-target : goal.returns-in-Ok-target
returns-in-Ok-target c = w.finished (w.form_read (w.mark_passed (w.start c.args.c.now (row.offer_receive_row c.args.c.now (c.if-not-is.ensures.yes refl))) c.take-2.new.self (c.if-not-is.ensures.yes refl) c.take-2.ensures.end c.take-2.ensures.token) c.in-Ok-target.ensures.0 c.in-Ok-target.ensures.1) refl

pub returns-in-Err-target : goal.returns-in-Err-target
returns-in-Err-target c = w.halted (w.mark_passed (w.start c.args.c.now (row.offer_receive_row c.args.c.now (c.if-not-is.ensures.yes refl))) c.take-2.new.self (c.if-not-is.ensures.yes refl) c.take-2.ensures.end c.take-2.ensures.token) c.target.new.c c.in-Err-target.halt c.in-Err-target.ensures
