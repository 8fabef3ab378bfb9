use Rattle.std.proofs.Common.{refl, sym, ◌∙◌}
use Rattle.hc_grammar.specs.Walk as w
use Rattle.hc_parse.proofs.RowsDeclaration as row
use Rattle.hc_parse.proofs.written.opt_expr.Goals as goal

pub returns-then-len-eq0 : goal.returns-then-len-eq0
returns-then-len-eq0 c = w.finished (w.start c.args.c.now (row.opt_expr_end c.args.c.now (sym c.len.ensures ∙ c.if-len-eq0.true))) refl

pub returns-then-is : goal.returns-then-is
returns-then-is c = w.finished (w.start c.args.c.now (row.no_opt_expr c.args.c.now (c.if-is.ensures.yes refl))) refl

pub returns-in-Err : goal.returns-in-Err
returns-in-Err c = w.halted (w.start c.args.c.now (row.opt_expr c.args.c.now (λ e. c.if-len-eq0.false (c.len.ensures ∙ e)) (c.if-is.ensures.no refl))) c.expr.new.c c.in-Err.halt c.in-Err.ensures

pub returns-in-Ok : goal.returns-in-Ok
returns-in-Ok c = w.finished (w.form_read (w.start c.args.c.now (row.opt_expr c.args.c.now (λ e. c.if-len-eq0.false (c.len.ensures ∙ e)) (c.if-is.ensures.no refl))) c.in-Ok.ensures.0 c.in-Ok.ensures.1) refl
