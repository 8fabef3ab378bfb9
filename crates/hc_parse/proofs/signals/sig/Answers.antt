use Rattle.std.proofs.Common.{None, refl, sym, ◌∙◌}
use Rattle.hc_grammar.specs.Walk as w
use Rattle.hc_parse.proofs.RowsDeclaration as row
use Rattle.hc_parse.proofs.signals.sig.Goals as goal

pub returns-then-len-eq0 : goal.returns-then-len-eq0
returns-then-len-eq0 c = w.refused_front (row.sig_none c.args.c.now (sym c.len.ensures ∙ c.if-len-eq0.true)) c.args.c.now refl None

pub returns-in-Err : goal.returns-in-Err
returns-in-Err c = w.halted (w.start c.args.c.now (row.sig c.args.c.now (λ e. c.if-len-eq0.false (c.len.ensures ∙ e)))) c.name.new.c c.in-Err.halt c.in-Err.ensures

pub returns-in-Err-sig_tail : goal.returns-in-Err-sig_tail
returns-in-Err-sig_tail c = w.halted (w.form_read (w.start c.args.c.now (row.sig c.args.c.now (λ e. c.if-len-eq0.false (c.len.ensures ∙ e)))) c.in-Ok.ensures.0 c.in-Ok.ensures.1) c.sig_tail.new.c c.in-Err-sig_tail.halt c.in-Err-sig_tail.ensures

pub returns-in-Ok-sig_tail : goal.returns-in-Ok-sig_tail
returns-in-Ok-sig_tail c = w.finished (w.form_read (w.form_read (w.start c.args.c.now (row.sig c.args.c.now (λ e. c.if-len-eq0.false (c.len.ensures ∙ e)))) c.in-Ok.ensures.0 c.in-Ok.ensures.1) c.in-Ok-sig_tail.ensures.0 c.in-Ok-sig_tail.ensures.1) refl
