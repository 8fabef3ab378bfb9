use Rattle.std.proofs.Common.{None, refl, sym, ◌∙◌}
use Rattle.hc_grammar.specs.Walk as w
use Rattle.hc_parse.proofs.RowsDeclaration as row
use Rattle.hc_parse.proofs.written.simple_tail.Goals as goal

pub returns-then-len-eq0 : goal.returns-then-len-eq0
returns-then-len-eq0 c = w.refused_front (row.tail_none c.args.c.now (sym c.len.ensures ∙ c.if-len-eq0.true)) c.args.c.now refl None

pub returns-in-Some : goal.returns-in-Some
returns-in-Some c =
    let r = row.found_step c.args.c.now c.in-Some.step c.in-Some.ensures in
    w.finished_to (w.mark_passed (w.start c.args.c.now (row.after c.args.c.now r.0 c.in-Some.step r.1 r.2)) c.take.new.self (r.1) c.take.ensures.end c.take.ensures.token) refl

pub returns-in-Err : goal.returns-in-Err
returns-in-Err c = w.halted (w.start c.args.c.now (row.assigned c.args.c.now (λ e. c.if-len-eq0.false (c.len.ensures ∙ e)) c.in_default.ensures)) c.assign.new.c c.in-Err.halt c.in-Err.ensures

pub returns-in-Err-expr : goal.returns-in-Err-expr
returns-in-Err-expr c = w.halted (w.form_read (w.start c.args.c.now (row.assigned c.args.c.now (λ e. c.if-len-eq0.false (c.len.ensures ∙ e)) c.in_default.ensures)) c.in-Ok.ensures.0 c.in-Ok.ensures.1) c.expr.new.c c.in-Err-expr.halt c.in-Err-expr.ensures

pub returns-in-Ok-expr : goal.returns-in-Ok-expr
returns-in-Ok-expr c = w.finished_to (w.form_read (w.form_read (w.start c.args.c.now (row.assigned c.args.c.now (λ e. c.if-len-eq0.false (c.len.ensures ∙ e)) c.in_default.ensures)) c.in-Ok.ensures.0 c.in-Ok.ensures.1) c.in-Ok-expr.ensures.0 c.in-Ok-expr.ensures.1) refl
