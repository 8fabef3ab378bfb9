use Rattle.std.proofs.Common.{◌++◌, [], ◌∷◌, ap, ◌∙◌}
use Rattle.hc_grammar.specs.Walk as w
use Rattle.hc_tree.specs.declared.decl.SpecValue.TheVariants as value
use Rattle.hc_parse.proofs.RowsDeclaration as row
use Rattle.hc_parse.proofs.with_list.texts.Goals as goal

pub returns-in-Err : goal.returns-in-Err
returns-in-Err c = w.halted (w.mark_passed (w.start c.args.c.now (row.texts_value c.args.c.now (c.requires))) c.take.new.self (c.requires) c.take.ensures.end c.take.ensures.token) c.text.new.c c.in-Err.halt c.in-Err.ensures

pub returns-in-Err-more_texts : goal.returns-in-Err-more_texts
returns-in-Err-more_texts c = w.halted (w.form_read (w.mark_passed (w.start c.args.c.now (row.texts_value c.args.c.now (c.requires))) c.take.new.self (c.requires) c.take.ensures.end c.take.ensures.token) c.in-Ok.ensures.0 c.in-Ok.ensures.1) c.more_texts.new.c c.in-Err-more_texts.halt c.in-Err-more_texts.ensures

pub returns-in-Err-expect : goal.returns-in-Err-expect
returns-in-Err-expect c =
    let t = c.in-Ok-more_texts.ensures in
    w.refused_mark (w.form_read (w.form_read (w.mark_passed (w.start c.args.c.now (row.texts_value c.args.c.now (c.requires))) c.take.new.self (c.requires) c.take.ensures.end c.take.ensures.token) c.in-Ok.ensures.0 c.in-Ok.ensures.1) t.1 t.3) c.expect.new.self c.in-Err-expect.halt c.in-Err-expect.ensures

pub returns-in-Ok-expect : goal.returns-in-Ok-expect
returns-in-Ok-expect c =
    let t = c.in-Ok-more_texts.ensures in
    w.finished (w.mark_expected (w.form_read (w.form_read (w.mark_passed (w.start c.args.c.now (row.texts_value c.args.c.now (c.requires))) c.take.new.self (c.requires) c.take.ensures.end c.take.ensures.token) c.in-Ok.ensures.0 c.in-Ok.ensures.1) t.1 t.3) c.expect.new.self c.in-Ok-expect.ensures) (ap value.Texts (t.2 ∙ ap (λ l. l ++ t.0) (c.in-Ok-push.ensures.ok ∙ ap (λ l. l ++ c.in-Ok.first ∷ []) c.new-texts.ensures)))
