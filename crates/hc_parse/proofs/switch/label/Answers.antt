use Rattle.std.proofs.Common.{[], ◌∷◌, refl, sym, ap, arith}
use Rattle.hc_tree.specs.declared.stmt.Label.TheVariants as label
use Rattle.hc_lex.specs.declared.mark.Mark.TheVariants as m
use Rattle.hc_grammar.specs.declared.kind.Kind.TheVariants as kinds
use Rattle.hc_grammar.specs.Walk as w
use Rattle.hc_parse.specs.Turn as turn
use Rattle.hc_parse.proofs.RowsStatement as row
use Rattle.hc_parse.proofs.WalksStatement as more
use Rattle.hc_parse.proofs.TurnsStatement as turns
use Rattle.hc_parse.proofs.switch.label.Goals as goal

pub returns-in-Err : goal.returns-in-Err
returns-in-Err c = c.in-Err.ensures _ _ _ _ (w.mark_passed (w.start c.args.c.now (row.tail_case_row c.args.has_default.now c.args.c.now (c.if-is.ensures.yes refl))) c.take.new.self (c.if-is.ensures.yes refl) c.take.ensures.end c.take.ensures.token)

pub returns-in-Ok : goal.returns-in-Ok
returns-in-Ok c = let t0 = more.taken_shorter c.args.c.now c.take.new.self kinds.Case c.take.result (c.if-is.ensures.yes refl) c.take.ensures.end c.take.ensures.token in let t1 = c.in-Ok.ensures.1 in
    (more.on_same (more.on_walked (c.in-Ok.ensures.0 _ _ _ _ (w.mark_passed (w.start c.args.c.now (row.tail_case_row c.args.has_default.now c.args.c.now (c.if-is.ensures.yes refl))) c.take.new.self (c.if-is.ensures.yes refl) c.take.ensures.end c.take.ensures.token)) (omega arith)) (λ tail. ap (λ at. turn.with_labels (label.Case at c.in-Ok.value ∷ []) tail) (sym c.place-place.ensures)), omega arith)

pub returns-in-Err-expect : goal.returns-in-Err-expect
returns-in-Err-expect c = w.refused_mark (w.mark_passed (w.start c.args.c.now (turns.default_row c.args.has_default.now c.args.c.now c.requires (c.if-is.ensures.no refl)).1) c.take-2.new.self (turns.default_row c.args.has_default.now c.args.c.now c.requires (c.if-is.ensures.no refl)).0 c.take-2.ensures.end c.take-2.ensures.token) c.expect.new.self c.in-Err-expect.halt c.in-Err-expect.ensures

pub returns-in-Ok-expect : goal.returns-in-Ok-expect
returns-in-Ok-expect c = let t0 = more.taken_shorter c.args.c.now c.take-2.new.self kinds.Default c.take-2.result (turns.default_row c.args.has_default.now c.args.c.now c.requires (c.if-is.ensures.no refl)).0 c.take-2.ensures.end c.take-2.ensures.token in let t1 = more.passed_shorter c.take-2.new.self c.expect.new.self (kinds.Mark m.Colon) c.in-Ok-expect.ensures in
    (more.on_same (more.on_walked (w.mark_expected (w.mark_passed (w.start c.args.c.now (turns.default_row c.args.has_default.now c.args.c.now c.requires (c.if-is.ensures.no refl)).1) c.take-2.new.self (turns.default_row c.args.has_default.now c.args.c.now c.requires (c.if-is.ensures.no refl)).0 c.take-2.ensures.end c.take-2.ensures.token) c.expect.new.self c.in-Ok-expect.ensures) (omega arith)) (λ tail. ap (λ at. turn.with_labels (label.Default at ∷ []) tail) (sym c.place-place.ensures)), omega arith)
