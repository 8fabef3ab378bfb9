use Rattle.std.proofs.Common.{refl}
use Rattle.hc_grammar.specs.Walk as w
use Rattle.hc_parse.proofs.RowsStatement as row
use Rattle.hc_parse.proofs.macros.macro_expr.Goals as goal

pub returns-in-Err : goal.returns-in-Err
returns-in-Err c = w.halted (w.mark_passed (w.start c.args.c.now (row.macro_expr_row c.args.c.now c.requires)) c.take.new.self c.requires c.take.ensures.end c.take.ensures.token) c.name.new.c c.in-Err.halt c.in-Err.ensures

pub returns-in-Err-opt_params : goal.returns-in-Err-opt_params
returns-in-Err-opt_params c = w.halted (w.form_read (w.mark_passed (w.start c.args.c.now (row.macro_expr_row c.args.c.now c.requires)) c.take.new.self c.requires c.take.ensures.end c.take.ensures.token) c.in-Ok.ensures.0 c.in-Ok.ensures.1) c.opt_params.new.c c.in-Err-opt_params.halt c.in-Err-opt_params.ensures

pub returns-in-Err-expect : goal.returns-in-Err-expect
returns-in-Err-expect c = w.refused_mark (w.form_read (w.form_read (w.mark_passed (w.start c.args.c.now (row.macro_expr_row c.args.c.now c.requires)) c.take.new.self c.requires c.take.ensures.end c.take.ensures.token) c.in-Ok.ensures.0 c.in-Ok.ensures.1) c.in-Ok-opt_params.ensures.0 c.in-Ok-opt_params.ensures.1) c.expect.new.self c.in-Err-expect.halt c.in-Err-expect.ensures

pub returns-in-Err-expr_before : goal.returns-in-Err-expr_before
returns-in-Err-expr_before c = c.in-Err-expr_before.ensures _ _ _ _ (w.mark_expected (w.form_read (w.form_read (w.mark_passed (w.start c.args.c.now (row.macro_expr_row c.args.c.now c.requires)) c.take.new.self c.requires c.take.ensures.end c.take.ensures.token) c.in-Ok.ensures.0 c.in-Ok.ensures.1) c.in-Ok-opt_params.ensures.0 c.in-Ok-opt_params.ensures.1) c.expect.new.self c.in-Ok-expect.ensures)

pub returns-in-Ok-expr_before : goal.returns-in-Ok-expr_before
returns-in-Ok-expr_before c = w.finished_to (c.in-Ok-expr_before.ensures.0 _ _ _ _ (w.mark_expected (w.form_read (w.form_read (w.mark_passed (w.start c.args.c.now (row.macro_expr_row c.args.c.now c.requires)) c.take.new.self c.requires c.take.ensures.end c.take.ensures.token) c.in-Ok.ensures.0 c.in-Ok.ensures.1) c.in-Ok-opt_params.ensures.0 c.in-Ok-opt_params.ensures.1) c.expect.new.self c.in-Ok-expect.ensures)) refl
