use Rattle.std.proofs.Common.{None, refl, sym, ◌∙◌}
use Rattle.hc_grammar.specs.Walk as w
use Rattle.hc_parse.proofs.RowsDeclaration as row
use Rattle.hc_parse.proofs.with_list.spec.Goals as goal

pub returns-then-len-eq0 : goal.returns-then-len-eq0
returns-then-len-eq0 c = w.refused_front (row.spec_none c.args.c.now (sym c.len.ensures ∙ c.if-len-eq0.true)) c.args.c.now refl None

pub returns-in-Err : goal.returns-in-Err
returns-in-Err c = w.halted (w.start c.args.c.now (row.spec c.args.c.now (λ e. c.if-len-eq0.false (c.len.ensures ∙ e)))) c.name.new.c c.in-Err.halt c.in-Err.ensures

pub returns-in-Err-expect : goal.returns-in-Err-expect
returns-in-Err-expect c = w.refused_mark (w.form_read (w.start c.args.c.now (row.spec c.args.c.now (λ e. c.if-len-eq0.false (c.len.ensures ∙ e)))) c.in-Ok.ensures.0 c.in-Ok.ensures.1) c.expect.new.self c.in-Err-expect.halt c.in-Err-expect.ensures

pub returns-in-Err-spec_value : goal.returns-in-Err-spec_value
returns-in-Err-spec_value c = w.halted (w.mark_expected (w.form_read (w.start c.args.c.now (row.spec c.args.c.now (λ e. c.if-len-eq0.false (c.len.ensures ∙ e)))) c.in-Ok.ensures.0 c.in-Ok.ensures.1) c.expect.new.self c.in-Ok-expect.ensures) c.spec_value.new.c c.in-Err-spec_value.halt c.in-Err-spec_value.ensures

pub returns-in-Ok-spec_value : goal.returns-in-Ok-spec_value
returns-in-Ok-spec_value c = w.finished (w.form_read (w.mark_expected (w.form_read (w.start c.args.c.now (row.spec c.args.c.now (λ e. c.if-len-eq0.false (c.len.ensures ∙ e)))) c.in-Ok.ensures.0 c.in-Ok.ensures.1) c.expect.new.self c.in-Ok-expect.ensures) c.in-Ok-spec_value.ensures.0 c.in-Ok-spec_value.ensures.1) refl
