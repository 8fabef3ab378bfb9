use Rattle.std.proofs.Common.{None, refl, sym, ◌∙◌}
use Rattle.hc_grammar.specs.Walk as w
use Rattle.hc_parse.proofs.RowsDeclaration as row
use Rattle.hc_parse.proofs.with_list.spec_value.Goals as goal

pub returns-then-len-eq0 : goal.returns-then-len-eq0
returns-then-len-eq0 c = w.refused_front (row.value_none c.args.c.now (sym c.len.ensures ∙ c.if-len-eq0.true)) c.args.c.now refl None

pub returns-in-Err : goal.returns-in-Err
returns-in-Err c = w.halted (w.start c.args.c.now (row.text_value c.args.c.now (c.if-is.ensures.yes refl))) c.text.new.c c.in-Err.halt c.in-Err.ensures

pub returns-in-Ok : goal.returns-in-Ok
returns-in-Ok c = w.finished (w.form_read (w.start c.args.c.now (row.text_value c.args.c.now (c.if-is.ensures.yes refl))) c.in-Ok.ensures.0 c.in-Ok.ensures.1) refl

pub returns-in-Err-expr : goal.returns-in-Err-expr
returns-in-Err-expr c = w.halted (w.start c.args.c.now (row.expr_value c.args.c.now (λ e. c.if-len-eq0.false (c.len.ensures ∙ e)) (c.if-is.ensures.no refl) (c.if-is-2.ensures.no refl))) c.expr.new.c c.in-Err-expr.halt c.in-Err-expr.ensures

pub returns-in-Ok-expr : goal.returns-in-Ok-expr
returns-in-Ok-expr c = w.finished (w.form_read (w.start c.args.c.now (row.expr_value c.args.c.now (λ e. c.if-len-eq0.false (c.len.ensures ∙ e)) (c.if-is.ensures.no refl) (c.if-is-2.ensures.no refl))) c.in-Ok-expr.ensures.0 c.in-Ok-expr.ensures.1) refl
