use Rattle.std.proofs.Common.{◌++◌, [], ◌∷◌, Some, refl, ap, ◌∙◌}
use Rattle.hc_grammar.specs.Walk as w
use Rattle.hc_parse.proofs.RowsDeclaration as row
use Rattle.hc_parse.proofs.with_list.with_list.Goals as goal

pub returns-then-not-is : goal.returns-then-not-is
returns-then-not-is c = w.finished (w.start c.args.c.now (row.no_with_list c.args.c.now (c.if-not-is.ensures.no refl))) refl

pub returns-in-Err : goal.returns-in-Err
returns-in-Err c = w.refused_mark (w.mark_passed (w.start c.args.c.now (row.with_list c.args.c.now (c.if-not-is.ensures.yes refl))) c.take.new.self (c.if-not-is.ensures.yes refl) c.take.ensures.end c.take.ensures.token) c.expect.new.self c.in-Err.halt c.in-Err.ensures

pub returns-in-Err-spec : goal.returns-in-Err-spec
returns-in-Err-spec c = w.halted (w.mark_expected (w.mark_passed (w.start c.args.c.now (row.with_list c.args.c.now (c.if-not-is.ensures.yes refl))) c.take.new.self (c.if-not-is.ensures.yes refl) c.take.ensures.end c.take.ensures.token) c.expect.new.self c.in-Ok.ensures) c.spec.new.c c.in-Err-spec.halt c.in-Err-spec.ensures

pub returns-in-Err-more_specs : goal.returns-in-Err-more_specs
returns-in-Err-more_specs c = w.halted (w.form_read (w.mark_expected (w.mark_passed (w.start c.args.c.now (row.with_list c.args.c.now (c.if-not-is.ensures.yes refl))) c.take.new.self (c.if-not-is.ensures.yes refl) c.take.ensures.end c.take.ensures.token) c.expect.new.self c.in-Ok.ensures) c.in-Ok-spec.ensures.0 c.in-Ok-spec.ensures.1) c.more_specs.new.c c.in-Err-more_specs.halt c.in-Err-more_specs.ensures

pub returns-in-Err-expect : goal.returns-in-Err-expect
returns-in-Err-expect c =
    let t = c.in-Ok-more_specs.ensures in
    w.refused_mark (w.form_read (w.form_read (w.mark_expected (w.mark_passed (w.start c.args.c.now (row.with_list c.args.c.now (c.if-not-is.ensures.yes refl))) c.take.new.self (c.if-not-is.ensures.yes refl) c.take.ensures.end c.take.ensures.token) c.expect.new.self c.in-Ok.ensures) c.in-Ok-spec.ensures.0 c.in-Ok-spec.ensures.1) t.1 t.3) c.expect-2.new.self c.in-Err-expect.halt c.in-Err-expect.ensures

pub returns-in-Ok-expect : goal.returns-in-Ok-expect
returns-in-Ok-expect c =
    let t = c.in-Ok-more_specs.ensures in
    w.finished (w.mark_expected (w.form_read (w.form_read (w.mark_expected (w.mark_passed (w.start c.args.c.now (row.with_list c.args.c.now (c.if-not-is.ensures.yes refl))) c.take.new.self (c.if-not-is.ensures.yes refl) c.take.ensures.end c.take.ensures.token) c.expect.new.self c.in-Ok.ensures) c.in-Ok-spec.ensures.0 c.in-Ok-spec.ensures.1) t.1 t.3) c.expect-2.new.self c.in-Ok-expect.ensures) (ap (λ l. Some (record { specs = l })) (t.2 ∙ ap (λ l. l ++ t.0) (c.in-Ok-push.ensures.ok ∙ ap (λ l. l ++ c.in-Ok-spec.first ∷ []) c.new-specs.ensures)))
