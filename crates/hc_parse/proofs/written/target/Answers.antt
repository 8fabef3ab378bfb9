use Rattle.std.proofs.Common.{None, refl, sym, ◌∙◌}
use Rattle.hc_grammar.specs.Walk as w
use Rattle.hc_parse.proofs.RowsDeclaration as row
use Rattle.hc_parse.proofs.written.target.Goals as goal

pub returns-then-len-eq0 : goal.returns-then-len-eq0
returns-then-len-eq0 c = w.refused_front (row.target_none c.args.c.now (sym c.len.ensures ∙ c.if-len-eq0.true)) c.args.c.now refl None

pub returns-in-Err : goal.returns-in-Err
returns-in-Err c = w.halted (w.start c.args.c.now (row.target c.args.c.now (λ e. c.if-len-eq0.false (c.len.ensures ∙ e)))) c.name.new.c c.in-Err.halt c.in-Err.ensures

pub returns-in-Err-index : goal.returns-in-Err-index
returns-in-Err-index c = w.halted (w.form_read (w.start c.args.c.now (row.target c.args.c.now (λ e. c.if-len-eq0.false (c.len.ensures ∙ e)))) c.in-Ok.ensures.0 c.in-Ok.ensures.1) c.index.new.c c.in-Err-index.halt c.in-Err-index.ensures

pub returns-in-Ok-index : goal.returns-in-Ok-index
returns-in-Ok-index c = w.finished (w.form_read (w.form_read (w.start c.args.c.now (row.target c.args.c.now (λ e. c.if-len-eq0.false (c.len.ensures ∙ e)))) c.in-Ok.ensures.0 c.in-Ok.ensures.1) c.in-Ok-index.ensures.0 c.in-Ok-index.ensures.1) refl
