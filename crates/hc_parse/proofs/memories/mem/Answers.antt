use Rattle.std.proofs.Common.{None, refl, sym, ◌∙◌}
use Rattle.hc_grammar.specs.Walk as w
use Rattle.hc_parse.specs.Initials.{initial}
use Rattle.hc_parse.proofs.RowsDeclaration as row
use Rattle.hc_parse.proofs.memories.mem.Goals as goal

pub returns-then-len-eq0 : goal.returns-then-len-eq0
returns-then-len-eq0 c = w.refused_front (row.mem_none (initial c.args.init) c.args.c.now (sym c.len.ensures ∙ c.if-len-eq0.true)) c.args.c.now refl None

pub returns-in-Err : goal.returns-in-Err
returns-in-Err c = w.halted (w.start c.args.c.now (row.mem (initial c.args.init) c.args.c.now (λ e. c.if-len-eq0.false (c.len.ensures ∙ e)))) c.name.new.c c.in-Err.halt c.in-Err.ensures

pub returns-in-Err-expect : goal.returns-in-Err-expect
returns-in-Err-expect c = w.refused_mark (w.form_read (w.start c.args.c.now (row.mem (initial c.args.init) c.args.c.now (λ e. c.if-len-eq0.false (c.len.ensures ∙ e)))) c.in-Ok.ensures.0 c.in-Ok.ensures.1) c.expect.new.self c.in-Err-expect.halt c.in-Err-expect.ensures

pub returns-in-Err-expr : goal.returns-in-Err-expr
returns-in-Err-expr c = w.halted (w.mark_expected (w.form_read (w.start c.args.c.now (row.mem (initial c.args.init) c.args.c.now (λ e. c.if-len-eq0.false (c.len.ensures ∙ e)))) c.in-Ok.ensures.0 c.in-Ok.ensures.1) c.expect.new.self c.in-Ok-expect.ensures) c.expr.new.c c.in-Err-expr.halt c.in-Err-expr.ensures

pub returns-in-Err-expect-2 : goal.returns-in-Err-expect-2
returns-in-Err-expect-2 c = w.refused_mark (w.form_read (w.mark_expected (w.form_read (w.start c.args.c.now (row.mem (initial c.args.init) c.args.c.now (λ e. c.if-len-eq0.false (c.len.ensures ∙ e)))) c.in-Ok.ensures.0 c.in-Ok.ensures.1) c.expect.new.self c.in-Ok-expect.ensures) c.in-Ok-expr.ensures.0 c.in-Ok-expr.ensures.1) c.expect-2.new.self c.in-Err-expect-2.halt c.in-Err-expect-2.ensures

pub returns-in-Err-mem_init : goal.returns-in-Err-mem_init
returns-in-Err-mem_init c = w.halted (w.mark_expected (w.form_read (w.mark_expected (w.form_read (w.start c.args.c.now (row.mem (initial c.args.init) c.args.c.now (λ e. c.if-len-eq0.false (c.len.ensures ∙ e)))) c.in-Ok.ensures.0 c.in-Ok.ensures.1) c.expect.new.self c.in-Ok-expect.ensures) c.in-Ok-expr.ensures.0 c.in-Ok-expr.ensures.1) c.expect-2.new.self c.in-Ok-expect-2.ensures) c.mem_init.new.c c.in-Err-mem_init.halt c.in-Err-mem_init.ensures

pub returns-in-Ok-mem_init : goal.returns-in-Ok-mem_init
returns-in-Ok-mem_init c = w.finished (w.form_read (w.mark_expected (w.form_read (w.mark_expected (w.form_read (w.start c.args.c.now (row.mem (initial c.args.init) c.args.c.now (λ e. c.if-len-eq0.false (c.len.ensures ∙ e)))) c.in-Ok.ensures.0 c.in-Ok.ensures.1) c.expect.new.self c.in-Ok-expect.ensures) c.in-Ok-expr.ensures.0 c.in-Ok-expr.ensures.1) c.expect-2.new.self c.in-Ok-expect-2.ensures) c.in-Ok-mem_init.ensures.0 c.in-Ok-mem_init.ensures.1) refl
