use Rattle.std.proofs.Common.{◌++◌, [], ◌∷◌, None, refl, sym, ap, ◌∙◌}
use Rattle.hc_grammar.specs.Walk as w
use Rattle.hc_tree.specs.declared.decl.Decl.TheVariants as d
use Rattle.hc_parse.proofs.RowsDeclaration as row
use Rattle.hc_parse.proofs.variables.vars_tail.Goals as goal

pub returns-then-len-eq0 : goal.returns-then-len-eq0
returns-then-len-eq0 c = w.refused_front (row.vars_tail_none c.args.init c.args.c.now (sym c.len.ensures ∙ c.if-len-eq0.true)) c.args.c.now refl None

pub returns-in-Err : goal.returns-in-Err
returns-in-Err c = w.halted (w.start c.args.c.now (row.vars_tail c.args.init c.args.c.now (λ e. c.if-len-eq0.false (c.len.ensures ∙ e)))) c.type_of.new.c c.in-Err.halt c.in-Err.ensures

pub returns-in-Err-var : goal.returns-in-Err-var
returns-in-Err-var c = w.halted (w.form_read (w.start c.args.c.now (row.vars_tail c.args.init c.args.c.now (λ e. c.if-len-eq0.false (c.len.ensures ∙ e)))) c.in-Ok.ensures.0 c.in-Ok.ensures.1) c.var.new.c c.in-Err-var.halt c.in-Err-var.ensures

pub returns-in-Err-more_vars : goal.returns-in-Err-more_vars
returns-in-Err-more_vars c = w.halted (w.form_read (w.form_read (w.start c.args.c.now (row.vars_tail c.args.init c.args.c.now (λ e. c.if-len-eq0.false (c.len.ensures ∙ e)))) c.in-Ok.ensures.0 c.in-Ok.ensures.1) c.in-Ok-var.ensures.0 c.in-Ok-var.ensures.1) c.more_vars.new.c c.in-Err-more_vars.halt c.in-Err-more_vars.ensures

pub returns-in-Err-with_list : goal.returns-in-Err-with_list
returns-in-Err-with_list c =
    let t = c.in-Ok-more_vars.ensures in
    w.halted (w.form_read (w.form_read (w.form_read (w.start c.args.c.now (row.vars_tail c.args.init c.args.c.now (λ e. c.if-len-eq0.false (c.len.ensures ∙ e)))) c.in-Ok.ensures.0 c.in-Ok.ensures.1) c.in-Ok-var.ensures.0 c.in-Ok-var.ensures.1) t.1 t.3) c.with_list.new.c c.in-Err-with_list.halt c.in-Err-with_list.ensures

pub returns-in-Err-expect : goal.returns-in-Err-expect
returns-in-Err-expect c =
    let t = c.in-Ok-more_vars.ensures in
    w.refused_mark (w.form_read (w.form_read (w.form_read (w.form_read (w.start c.args.c.now (row.vars_tail c.args.init c.args.c.now (λ e. c.if-len-eq0.false (c.len.ensures ∙ e)))) c.in-Ok.ensures.0 c.in-Ok.ensures.1) c.in-Ok-var.ensures.0 c.in-Ok-var.ensures.1) t.1 t.3) c.in-Ok-with_list.ensures.0 c.in-Ok-with_list.ensures.1) c.expect.new.self c.in-Err-expect.halt c.in-Err-expect.ensures

pub returns-in-Ok-expect : goal.returns-in-Ok-expect
returns-in-Ok-expect c =
    let t = c.in-Ok-more_vars.ensures in
    w.finished_to (w.mark_expected (w.form_read (w.form_read (w.form_read (w.form_read (w.start c.args.c.now (row.vars_tail c.args.init c.args.c.now (λ e. c.if-len-eq0.false (c.len.ensures ∙ e)))) c.in-Ok.ensures.0 c.in-Ok.ensures.1) c.in-Ok-var.ensures.0 c.in-Ok-var.ensures.1) t.1 t.3) c.in-Ok-with_list.ensures.0 c.in-Ok-with_list.ensures.1) c.expect.new.self c.in-Ok-expect.ensures) (ap (λ l. d.Vars c.args.place c.args.is_static c.in-Ok.of l c.in-Ok-with_list.«with») (t.2 ∙ ap (λ l. l ++ t.0) (c.in-Ok-push.ensures.ok ∙ ap (λ l. l ++ c.in-Ok-var.first ∷ []) c.new-vars.ensures)))
