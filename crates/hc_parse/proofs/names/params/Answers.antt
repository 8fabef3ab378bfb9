use Rattle.std.proofs.Common.{None, refl, sym, ◌∙◌}
use Rattle.hc_grammar.specs.Walk as w
use Rattle.hc_parse.proofs.RowsDeclaration as row
use Rattle.hc_parse.proofs.names.params.Goals as goal

pub returns-then-len-eq0 : goal.returns-then-len-eq0
returns-then-len-eq0 c = w.refused_front (row.params_none c.args.c.now (sym c.len.ensures ∙ c.if-len-eq0.true)) c.args.c.now refl None

pub returns-in-Err : goal.returns-in-Err
returns-in-Err c = w.refused_mark (w.start c.args.c.now (row.params c.args.c.now (λ e. c.if-len-eq0.false (c.len.ensures ∙ e)))) c.expect.new.self c.in-Err.halt c.in-Err.ensures

pub returns-in-Err-names : goal.returns-in-Err-names
returns-in-Err-names c = w.halted (w.mark_expected (w.start c.args.c.now (row.params c.args.c.now (λ e. c.if-len-eq0.false (c.len.ensures ∙ e)))) c.expect.new.self c.in-Ok.ensures) c.names.new.c c.in-Err-names.halt c.in-Err-names.ensures

pub returns-in-Err-expect : goal.returns-in-Err-expect
returns-in-Err-expect c = w.refused_mark (w.form_read (w.mark_expected (w.start c.args.c.now (row.params c.args.c.now (λ e. c.if-len-eq0.false (c.len.ensures ∙ e)))) c.expect.new.self c.in-Ok.ensures) c.in-Ok-names.ensures.0 c.in-Ok-names.ensures.1) c.expect-2.new.self c.in-Err-expect.halt c.in-Err-expect.ensures

pub returns-in-Ok-expect : goal.returns-in-Ok-expect
returns-in-Ok-expect c = w.finished (w.mark_expected (w.form_read (w.mark_expected (w.start c.args.c.now (row.params c.args.c.now (λ e. c.if-len-eq0.false (c.len.ensures ∙ e)))) c.expect.new.self c.in-Ok.ensures) c.in-Ok-names.ensures.0 c.in-Ok-names.ensures.1) c.expect-2.new.self c.in-Ok-expect.ensures) refl
