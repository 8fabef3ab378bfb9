use Rattle.std.proofs.Common.{None, refl, sym, ◌∙◌}
use Rattle.hc_grammar.specs.Walk as w
use Rattle.hc_parse.proofs.RowsDeclaration as row
use Rattle.hc_parse.proofs.signals.boxed.Goals as goal

pub returns-then-len-eq0 : goal.returns-then-len-eq0
returns-then-len-eq0 c = w.refused_front (row.boxed_none c.args.c.now (sym c.len.ensures ∙ c.if-len-eq0.true)) c.args.c.now refl None

pub returns-in-Err : goal.returns-in-Err
returns-in-Err c = w.halted (w.start c.args.c.now (row.bare c.args.c.now (λ e. c.if-len-eq0.false (c.len.ensures ∙ e)) (c.if-not-is.ensures.no refl))) c.type_of.new.c c.in-Err.halt c.in-Err.ensures

pub returns-in-Ok : goal.returns-in-Ok
returns-in-Ok c = w.finished (w.form_read (w.start c.args.c.now (row.bare c.args.c.now (λ e. c.if-len-eq0.false (c.len.ensures ∙ e)) (c.if-not-is.ensures.no refl))) c.in-Ok.ensures.0 c.in-Ok.ensures.1) refl

pub returns-in-Err-type_of : goal.returns-in-Err-type_of
returns-in-Err-type_of c = w.halted (w.mark_passed (w.start c.args.c.now (row.in_angles c.args.c.now (c.if-not-is.ensures.yes refl))) c.take.new.self (c.if-not-is.ensures.yes refl) c.take.ensures.end c.take.ensures.token) c.type_of-2.new.c c.in-Err-type_of.halt c.in-Err-type_of.ensures

pub returns-in-Err-expect : goal.returns-in-Err-expect
returns-in-Err-expect c = w.refused_mark (w.form_read (w.mark_passed (w.start c.args.c.now (row.in_angles c.args.c.now (c.if-not-is.ensures.yes refl))) c.take.new.self (c.if-not-is.ensures.yes refl) c.take.ensures.end c.take.ensures.token) c.in-Ok-type_of.ensures.0 c.in-Ok-type_of.ensures.1) c.expect.new.self c.in-Err-expect.halt c.in-Err-expect.ensures

pub returns-in-Ok-expect : goal.returns-in-Ok-expect
returns-in-Ok-expect c = w.finished (w.mark_expected (w.form_read (w.mark_passed (w.start c.args.c.now (row.in_angles c.args.c.now (c.if-not-is.ensures.yes refl))) c.take.new.self (c.if-not-is.ensures.yes refl) c.take.ensures.end c.take.ensures.token) c.in-Ok-type_of.ensures.0 c.in-Ok-type_of.ensures.1) c.expect.new.self c.in-Ok-expect.ensures) refl
