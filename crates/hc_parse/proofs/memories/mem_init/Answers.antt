use Rattle.std.proofs.Common.{◌++◌, [], ◌∷◌, Some, refl, ap, ◌∙◌}
use Rattle.hc_lex.specs.declared.mark.Mark.TheVariants as m
use Rattle.hc_grammar.specs.declared.kind.Kind.TheVariants as kinds
use Rattle.hc_grammar.specs.Walk as w
use Rattle.hc_exparse.proofs.Walk.{mark_there}
use Rattle.hc_parse.proofs.RowsDeclaration as row
use Rattle.hc_parse.proofs.memories.mem_init.Goals as goal

pub returns-then-has_none : goal.returns-then-has_none
returns-then-has_none c = w.finished (w.start c.args.c.now (row.no_values c.args.init c.args.c.now (c.has_none.ensures.yes c.if-has_none.true))) refl

pub returns-in-Err : goal.returns-in-Err
returns-in-Err c = row.values_refused c.args.init c.args.c.now c.expect.new.self c.in-Err.halt (c.has_none.ensures.no c.if-has_none.false) c.in-Err.ensures

pub returns-in-Err-expect : goal.returns-in-Err-expect
returns-in-Err-expect c = w.refused_mark (w.mark_expected (w.start c.args.c.now (row.values c.args.init c.args.c.now (c.has_none.ensures.no c.if-has_none.false) (mark_there (kinds.Mark m.Assign) c.args.c.now c.expect.new.self c.in-Ok.ensures))) c.expect.new.self c.in-Ok.ensures) c.expect-2.new.self c.in-Err-expect.halt c.in-Err-expect.ensures

pub returns-in-Err-expr : goal.returns-in-Err-expr
returns-in-Err-expr c = w.halted (w.mark_expected (w.mark_expected (w.start c.args.c.now (row.values c.args.init c.args.c.now (c.has_none.ensures.no c.if-has_none.false) (mark_there (kinds.Mark m.Assign) c.args.c.now c.expect.new.self c.in-Ok.ensures))) c.expect.new.self c.in-Ok.ensures) c.expect-2.new.self c.in-Ok-expect.ensures) c.expr.new.c c.in-Err-expr.halt c.in-Err-expr.ensures

pub returns-in-Err-more_exprs : goal.returns-in-Err-more_exprs
returns-in-Err-more_exprs c = w.halted (w.form_read (w.mark_expected (w.mark_expected (w.start c.args.c.now (row.values c.args.init c.args.c.now (c.has_none.ensures.no c.if-has_none.false) (mark_there (kinds.Mark m.Assign) c.args.c.now c.expect.new.self c.in-Ok.ensures))) c.expect.new.self c.in-Ok.ensures) c.expect-2.new.self c.in-Ok-expect.ensures) c.in-Ok-expr.ensures.0 c.in-Ok-expr.ensures.1) c.more_exprs.new.c c.in-Err-more_exprs.halt c.in-Err-more_exprs.ensures

pub returns-in-Err-expect-2 : goal.returns-in-Err-expect-2
returns-in-Err-expect-2 c =
    let t = c.in-Ok-more_exprs.ensures in
    w.refused_mark (w.form_read (w.form_read (w.mark_expected (w.mark_expected (w.start c.args.c.now (row.values c.args.init c.args.c.now (c.has_none.ensures.no c.if-has_none.false) (mark_there (kinds.Mark m.Assign) c.args.c.now c.expect.new.self c.in-Ok.ensures))) c.expect.new.self c.in-Ok.ensures) c.expect-2.new.self c.in-Ok-expect.ensures) c.in-Ok-expr.ensures.0 c.in-Ok-expr.ensures.1) t.1 t.3) c.expect-3.new.self c.in-Err-expect-2.halt c.in-Err-expect-2.ensures

pub returns-in-Ok-expect-2 : goal.returns-in-Ok-expect-2
returns-in-Ok-expect-2 c =
    let t = c.in-Ok-more_exprs.ensures in
    w.finished (w.mark_expected (w.form_read (w.form_read (w.mark_expected (w.mark_expected (w.start c.args.c.now (row.values c.args.init c.args.c.now (c.has_none.ensures.no c.if-has_none.false) (mark_there (kinds.Mark m.Assign) c.args.c.now c.expect.new.self c.in-Ok.ensures))) c.expect.new.self c.in-Ok.ensures) c.expect-2.new.self c.in-Ok-expect.ensures) c.in-Ok-expr.ensures.0 c.in-Ok-expr.ensures.1) t.1 t.3) c.expect-3.new.self c.in-Ok-expect-2.ensures) (ap Some (t.2 ∙ ap (λ l. l ++ t.0) (c.in-Ok-push.ensures.ok ∙ ap (λ l. l ++ c.in-Ok-expr.first ∷ []) c.new-values.ensures)))
