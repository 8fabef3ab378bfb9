use Rattle.std.proofs.Common.{◌++◌, [], ◌∷◌, refl, sym, ap, ◌∙◌}
use Rattle.hc_grammar.specs.Walk as w
use Rattle.hc_parse.proofs.RowsDeclaration as row
use Rattle.hc_parse.proofs.names.names.Goals as goal

pub returns-then-len-eq0 : goal.returns-then-len-eq0
returns-then-len-eq0 c = w.finished (w.start c.args.c.now (row.names_end c.args.c.now (sym c.len.ensures ∙ c.if-len-eq0.true))) c.new-list.ensures

pub returns-then-is : goal.returns-then-is
returns-then-is c = w.finished (w.start c.args.c.now (row.no_names c.args.c.now (c.if-is.ensures.yes refl))) c.new-list.ensures

pub returns-in-Err : goal.returns-in-Err
returns-in-Err c = w.halted (w.start c.args.c.now (row.names c.args.c.now (λ e. c.if-len-eq0.false (c.len.ensures ∙ e)) (c.if-is.ensures.no refl))) c.name.new.c c.in-Err.halt c.in-Err.ensures

pub returns-in-Err-more_names : goal.returns-in-Err-more_names
returns-in-Err-more_names c = w.halted (w.form_read (w.start c.args.c.now (row.names c.args.c.now (λ e. c.if-len-eq0.false (c.len.ensures ∙ e)) (c.if-is.ensures.no refl))) c.in-Ok.ensures.0 c.in-Ok.ensures.1) c.more_names.new.c c.in-Err-more_names.halt c.in-Err-more_names.ensures

pub returns-in-Ok-more_names : goal.returns-in-Ok-more_names
returns-in-Ok-more_names c =
    let t = c.in-Ok-more_names.ensures in
    w.finished (w.form_read (w.form_read (w.start c.args.c.now (row.names c.args.c.now (λ e. c.if-len-eq0.false (c.len.ensures ∙ e)) (c.if-is.ensures.no refl))) c.in-Ok.ensures.0 c.in-Ok.ensures.1) t.1 t.3) (t.2 ∙ ap (λ l. l ++ t.0) (c.in-Ok-push.ensures.ok ∙ ap (λ l. l ++ c.in-Ok.first ∷ []) c.new-list.ensures))
