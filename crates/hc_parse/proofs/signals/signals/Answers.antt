use Rattle.std.proofs.Common.{◌++◌, [], ◌∷◌, ap, ◌∙◌}
use Rattle.hc_grammar.specs.Cursor.{place_at}
use Rattle.hc_grammar.specs.Walk as w
use Rattle.hc_tree.specs.declared.decl.Decl.TheVariants as d
use Rattle.hc_parse.proofs.RowsDeclaration as row
use Rattle.hc_parse.proofs.signals.signals.Goals as goal

pub returns-in-Err : goal.returns-in-Err
returns-in-Err c local = w.halted (w.mark_passed (w.start c.args.c.now (row.signals local c.args.c.now c.requires)) c.take.new.self (c.requires) c.take.ensures.end c.take.ensures.token) c.boxed.new.c c.in-Err.halt c.in-Err.ensures

pub returns-in-Err-sig : goal.returns-in-Err-sig
returns-in-Err-sig c local = w.halted (w.form_read (w.mark_passed (w.start c.args.c.now (row.signals local c.args.c.now c.requires)) c.take.new.self (c.requires) c.take.ensures.end c.take.ensures.token) c.in-Ok.ensures.0 c.in-Ok.ensures.1) c.sig.new.c c.in-Err-sig.halt c.in-Err-sig.ensures

pub returns-in-Err-more_sigs : goal.returns-in-Err-more_sigs
returns-in-Err-more_sigs c local = w.halted (w.form_read (w.form_read (w.mark_passed (w.start c.args.c.now (row.signals local c.args.c.now c.requires)) c.take.new.self (c.requires) c.take.ensures.end c.take.ensures.token) c.in-Ok.ensures.0 c.in-Ok.ensures.1) c.in-Ok-sig.ensures.0 c.in-Ok-sig.ensures.1) c.more_sigs.new.c c.in-Err-more_sigs.halt c.in-Err-more_sigs.ensures

pub returns-in-Err-with_list : goal.returns-in-Err-with_list
returns-in-Err-with_list c local =
    let t = c.in-Ok-more_sigs.ensures in
    w.halted (w.form_read (w.form_read (w.form_read (w.mark_passed (w.start c.args.c.now (row.signals local c.args.c.now c.requires)) c.take.new.self (c.requires) c.take.ensures.end c.take.ensures.token) c.in-Ok.ensures.0 c.in-Ok.ensures.1) c.in-Ok-sig.ensures.0 c.in-Ok-sig.ensures.1) t.1 t.3) c.with_list.new.c c.in-Err-with_list.halt c.in-Err-with_list.ensures

pub returns-in-Err-expect : goal.returns-in-Err-expect
returns-in-Err-expect c local =
    let t = c.in-Ok-more_sigs.ensures in
    w.refused_mark (w.form_read (w.form_read (w.form_read (w.form_read (w.mark_passed (w.start c.args.c.now (row.signals local c.args.c.now c.requires)) c.take.new.self (c.requires) c.take.ensures.end c.take.ensures.token) c.in-Ok.ensures.0 c.in-Ok.ensures.1) c.in-Ok-sig.ensures.0 c.in-Ok-sig.ensures.1) t.1 t.3) c.in-Ok-with_list.ensures.0 c.in-Ok-with_list.ensures.1) c.expect.new.self c.in-Err-expect.halt c.in-Err-expect.ensures

pub returns-in-Ok-expect : goal.returns-in-Ok-expect
returns-in-Ok-expect c local =
    let t = c.in-Ok-more_sigs.ensures in
    w.finished (w.mark_expected (w.form_read (w.form_read (w.form_read (w.form_read (w.mark_passed (w.start c.args.c.now (row.signals local c.args.c.now c.requires)) c.take.new.self (c.requires) c.take.ensures.end c.take.ensures.token) c.in-Ok.ensures.0 c.in-Ok.ensures.1) c.in-Ok-sig.ensures.0 c.in-Ok-sig.ensures.1) t.1 t.3) c.in-Ok-with_list.ensures.0 c.in-Ok-with_list.ensures.1) c.expect.new.self c.in-Ok-expect.ensures) (ap (λ at. d.Signals at c.in-Ok.of c.more_sigs.new.list c.in-Ok-with_list.«with») c.place-place.ensures ∙ ap (λ l. d.Signals (place_at c.args.c.now) c.in-Ok.of l c.in-Ok-with_list.«with») (t.2 ∙ ap (λ l. l ++ t.0) (c.in-Ok-push.ensures.ok ∙ ap (λ l. l ++ c.in-Ok-sig.first ∷ []) c.new-signals.ensures)))
