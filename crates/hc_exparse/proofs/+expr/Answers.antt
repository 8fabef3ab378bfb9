use Rattle.std.proofs.Common.{◌≡◌, ℕ, List, [], ◌∷◌, length, true, Option, Some, None, Result, Ok, Err, refl, sym, ap, subst, ◌∙◌, arith, rules}
use Rattle.std.specs.Prelude.{◌++◌, option_map, option_and_then}
use Rattle.hc_tree.specs.declared.expr.ExprTree.TheVariants as e
use Rattle.hc_lex.specs.declared.mark.Mark.TheVariants as m
use Rattle.hc_grammar.specs.declared.kind.Kind.{Kind}
use Rattle.hc_grammar.specs.declared.kind.Kind.TheVariants as kinds
use Rattle.hc_grammar.specs.Expression.{unary_op, begins_type}
use Rattle.hc_grammar.specs.Form as f
use Rattle.hc_tree.specs.declared.expr.ExprTree.{ExprTree}
use Rattle.hc_tree.specs.declared.expr.UnaryOp.{UnaryOp}
use Rattle.hc_grammar.specs.declared.halt.Halt.{Halt}
use Rattle.hc_grammar.specs.Cursor.{Ahead}
use Rattle.hc_exparse.specs.declared.part.NameTail.TheVariants.{Alone, Call}
use Rattle.hc_grammar.specs.Table.{form}
use Rattle.hc_grammar.specs.Walk as w
use Rattle.hc_exparse.specs.Ops.{next_kind, level_op}
use Rattle.hc_exparse.specs.Last.{halt_or_zero, AnswersLast}
use Rattle.hc_exparse.specs.Parts.{choice_part, bits_part, name_part, type_part}
use Rattle.hc_exparse.proofs.Walk.{Walked, start, mark_expected, mark_passed, form_read, finished, finished_to, finished_as, refused_front, refused_mark, plain, plain_answer, halted_front, halted_at, halted_full, order, made, made_to, before_halted, before_refused, before_read, both_read, both_halted, both_halted_same, mark_missing, mark_there, refused_here}
use Rattle.hc_exparse.proofs.Rows as row
use Rattle.hc_grammar.specs.Answers.{Answers}
use Rattle.hc_exparse.proofs.More.{Went, Went-none, Went-more, Went-done, Went-halted, taken_shorter}
use Rattle.hc_exparse.proofs.+expr.Goals as goal

alone : (n : ℕ) (old new : Ahead) (result : Result ExprTree Halt) → Walked (f.binary n) old (form f.unary ∷ []) (λ (a, _). a) old → AnswersLast f.unary old result new
    → AnswersLast (f.binary n) old result new
alone n old new (Ok v) w a = finished (form_read w new a.0 a.1) refl
alone n old new (Err halt) w h = halted_front w refl refl new halt h

answers_nil : {c : Ahead} → w.Walked f.args c [] (λ _. []) c → {list : List ExprTree} → list ≡ [] → Answers f.args c (Ok list) c
answers_nil walked is = w.finished walked is

first : (c : Ahead) → option_map begins_type (next_kind c) ≡ Some true → (k : Kind) × (next_kind c ≡ Some k) × (begins_type k ≡ true)
first c is = at (next_kind c) is
  where
    at : (o : Option Kind) → option_map begins_type o ≡ Some true → (k : Kind) × (o ≡ Some k) × (begins_type k ≡ true)
    at None is = absurd cc
    at (Some k) is = (k, refl, cc)

operator : (c : Ahead) (op : UnaryOp) → option_and_then unary_op (next_kind c) ≡ Some op → (k : Kind) × (next_kind c ≡ Some k) × (unary_op k ≡ Some op)
operator c op is = at (next_kind c) is
  where
    at : (o : Option Kind) → option_and_then unary_op o ≡ Some op → (k : Kind) × (o ≡ Some k) × (unary_op k ≡ Some op)
    at None is = absurd cc
    at (Some k) is = (k, refl, is)

pub binary::binary-returns-then-before-eq0 : goal.binary::binary-returns-then-before-eq0
binary::binary-returns-then-before-eq0 t c = refused_front refl (row.binary_none c.args.level c.args.c.now (row.none_kind c.args.c.now (sym c.len-before.ensures ∙ c.if-before-eq0.true)))

pub binary::binary-returns-then-level-eq0 : goal.binary::binary-returns-then-level-eq0
binary::binary-returns-then-level-eq0 t c =
    let k = row.some_kind c.args.c.now (λ e. c.if-before-eq0.false (c.len-before.ensures ∙ e)) in
    alone c.args.level c.args.c.now c.unary.new.c c.unary.result (start c.args.c.now (row.unary_row c.args.c.now c.args.level k.0 k.1 c.if-level-eq0.true)) c.unary.ensures

pub binary::binary-returns-in-Err : goal.binary::binary-returns-in-Err
binary::binary-returns-in-Err t c =
    let k = row.some_kind c.args.c.now (λ e. c.if-before-eq0.false (c.len-before.ensures ∙ e)) in
    halted_front (start c.args.c.now (row.binary_row c.args.c.now c.args.level k.0 k.1 c.if-level-eq0.false)) refl refl c.binary.new.c c.in-Err.halt c.in-Err.ensures

pub binary::binary-later-requires-clause-order : goal.binary::binary-later-requires-clause-order
binary::binary-later-requires-clause-order t c =
    let k = row.some_kind c.args.c.now (λ e. c.if-before-eq0.false (c.len-before.ensures ∙ e)) in
    order (form_read (start c.args.c.now (row.binary_row c.args.c.now c.args.level k.0 k.1 c.if-level-eq0.false)) c.binary.new.c c.in-Ok.ensures.0 c.in-Ok.ensures.1)
    c.len-before.ensures c.len-at.ensures

pub binary::binary-returns-in-Ok-binary_tail : goal.binary::binary-returns-in-Ok-binary_tail
binary::binary-returns-in-Ok-binary_tail t c =
    let k = row.some_kind c.args.c.now (λ e. c.if-before-eq0.false (c.len-before.ensures ∙ e)) in
    let t = c.in-Ok-binary_tail.ensures in
    finished (form_read (form_read (start c.args.c.now (row.binary_row c.args.c.now c.args.level k.0 k.1 c.if-level-eq0.false)) c.binary.new.c c.in-Ok.ensures.0 c.in-Ok.ensures.1)
    c.binary_tail.new.c t.1 t.3) (t.2 ∙ ap (λ at. t.0 at c.in-Ok.left) c.place-place.ensures)

pub binary::binary-returns-in-Err-binary_tail : goal.binary::binary-returns-in-Err-binary_tail
binary::binary-returns-in-Err-binary_tail t c =
    let k = row.some_kind c.args.c.now (λ e. c.if-before-eq0.false (c.len-before.ensures ∙ e)) in
    halted_at (form_read (start c.args.c.now (row.binary_row c.args.c.now c.args.level k.0 k.1 c.if-level-eq0.false)) c.binary.new.c c.in-Ok.ensures.0 c.in-Ok.ensures.1)
    refl c.binary_tail.new.c c.in-Err-binary_tail.halt c.in-Err-binary_tail.ensures c.len-before.ensures c.len-at.ensures c.later.ensures

pub binary::binary-binary_tail-requires : goal.binary::binary-binary_tail-requires
binary::binary-binary_tail-requires t c = let less = w.Reads-shorter c.in-Ok.ensures.0 in search rules

pub binary::binary_tail-returns-in-None : goal.binary::binary_tail-returns-in-None
binary::binary_tail-returns-in-None t c = finished_to (start c.args.c.now (row.no_op_row c.args.c.now c.args.level (sym (c.in-None.ensures ∙ ap (level_op c.args.level) c.kind.ensures)))) refl

pub binary::binary_tail-returns-in-Err : goal.binary::binary_tail-returns-in-Err
binary::binary_tail-returns-in-Err t c =
    let r = row.op_row c.args.c.now c.args.level c.in-Some.op (sym (c.in-Some.ensures ∙ ap (level_op c.args.level) c.kind.ensures)) c.requires.low in
    halted_at (mark_passed (start c.args.c.now r.2) c.take.new.self r.1 c.take.ensures.end c.take.ensures.token) refl c.binary.new.c c.in-Err.halt c.in-Err.ensures
    c.len-before.ensures c.len-behind_op.ensures (c.or_zero.ensures ∙ ap halt_or_zero c.later.ensures)

pub binary::binary_tail-later-requires-clause-order : goal.binary::binary_tail-later-requires-clause-order
binary::binary_tail-later-requires-clause-order t c =
    let r = row.op_row c.args.c.now c.args.level c.in-Some.op (sym (c.in-Some.ensures ∙ ap (level_op c.args.level) c.kind.ensures)) c.requires.low in
    order (mark_passed (start c.args.c.now r.2) c.take.new.self r.1 c.take.ensures.end c.take.ensures.token) c.len-before.ensures c.len-behind_op.ensures

pub binary::binary_tail-later-requires-in-Err-binary_tail-clause-order : goal.binary::binary_tail-later-requires-in-Err-binary_tail-clause-order
binary::binary_tail-later-requires-in-Err-binary_tail-clause-order t c =
    let r = row.op_row c.args.c.now c.args.level c.in-Some.op (sym (c.in-Some.ensures ∙ ap (level_op c.args.level) c.kind.ensures)) c.requires.low in
    order (form_read (mark_passed (start c.args.c.now r.2) c.take.new.self r.1 c.take.ensures.end c.take.ensures.token) c.binary.new.c c.in-Ok.ensures.0 c.in-Ok.ensures.1)
    c.len-before.ensures c.len-at.ensures

pub binary::binary_tail-returns-in-Ok-binary_tail : goal.binary::binary_tail-returns-in-Ok-binary_tail
binary::binary_tail-returns-in-Ok-binary_tail t c =
    let r = row.op_row c.args.c.now c.args.level c.in-Some.op (sym (c.in-Some.ensures ∙ ap (level_op c.args.level) c.kind.ensures)) c.requires.low in
    let t = c.in-Ok-binary_tail.ensures in
    finished_to (form_read (form_read (mark_passed (start c.args.c.now r.2) c.take.new.self r.1 c.take.ensures.end c.take.ensures.token) c.binary.new.c c.in-Ok.ensures.0 c.in-Ok.ensures.1)
    c.binary_tail.new.c t.1 t.3) (t.2 ∙ ap (t.0 c.args.place) c.in-Ok-binary_of.ensures)

pub binary::binary_tail-returns-in-Err-binary_tail : goal.binary::binary_tail-returns-in-Err-binary_tail
binary::binary_tail-returns-in-Err-binary_tail t c =
    let r = row.op_row c.args.c.now c.args.level c.in-Some.op (sym (c.in-Some.ensures ∙ ap (level_op c.args.level) c.kind.ensures)) c.requires.low in
    halted_at (form_read (mark_passed (start c.args.c.now r.2) c.take.new.self r.1 c.take.ensures.end c.take.ensures.token) c.binary.new.c c.in-Ok.ensures.0 c.in-Ok.ensures.1)
    refl c.binary_tail.new.c c.in-Err-binary_tail.halt c.in-Err-binary_tail.ensures c.len-before.ensures c.len-at.ensures (c.or_zero-in-Err-binary_tail.ensures ∙ ap halt_or_zero c.later-in-Err-binary_tail.ensures)

pub binary::binary_tail-binary_tail-requires : goal.binary::binary_tail-binary_tail-requires
binary::binary_tail-binary_tail-requires t c =
    let r = row.op_row c.args.c.now c.args.level c.in-Some.op (sym (c.in-Some.ensures ∙ ap (level_op c.args.level) c.kind.ensures)) c.requires.low in
    let fewer = taken_shorter c.args.c.now c.take.new.self r.0 c.take.result r.1 c.take.ensures.end c.take.ensures.token in
    let less = w.Reads-shorter c.in-Ok.ensures.0 in search rules

pub expression::choice_tail-returns-then-not-is : goal.expression::choice_tail-returns-then-not-is
expression::choice_tail-returns-then-not-is t c = finished_as choice_part (start c.args.c.now (row.choice_empty c.args.c.now (c.if-not-is.ensures.no refl))) None refl

pub expression::choice_tail-returns-in-Err : goal.expression::choice_tail-returns-in-Err
expression::choice_tail-returns-in-Err t c =
    let known = c.if-not-is.ensures.yes refl in
    both_halted (mark_passed (start c.args.c.now (row.choice_row c.args.c.now known)) c.take.new.self known c.take.ensures.end c.take.ensures.token)
    c.expr_before.new.c c.in-Err.halt c.in-Err.ensures c.with_last.ensures

pub expression::choice_tail-later-requires-clause-order : goal.expression::choice_tail-later-requires-clause-order
expression::choice_tail-later-requires-clause-order t c =
    let known = c.if-not-is.ensures.yes refl in
    order (both_read (mark_passed (start c.args.c.now (row.choice_row c.args.c.now known)) c.take.new.self known c.take.ensures.end c.take.ensures.token)
    c.expr_before.new.c c.in-Ok.ensures) c.len-before.ensures c.len-at.ensures

pub expression::choice_tail-returns-in-Ok-whole : goal.expression::choice_tail-returns-in-Ok-whole
expression::choice_tail-returns-in-Ok-whole t c =
    let known = c.if-not-is.ensures.yes refl in
    finished_as choice_part (form_read (both_read (mark_passed (start c.args.c.now (row.choice_row c.args.c.now known)) c.take.new.self known c.take.ensures.end c.take.ensures.token)
    c.expr_before.new.c c.in-Ok.ensures) c.whole.new.c c.in-Ok-whole.ensures.0 c.in-Ok-whole.ensures.1) (Some (c.in-Ok.yes, c.in-Ok-whole.no)) refl

pub expression::choice_tail-returns-in-Err-whole : goal.expression::choice_tail-returns-in-Err-whole
expression::choice_tail-returns-in-Err-whole t c =
    let known = c.if-not-is.ensures.yes refl in
    halted_at (both_read (mark_passed (start c.args.c.now (row.choice_row c.args.c.now known)) c.take.new.self known c.take.ensures.end c.take.ensures.token)
    c.expr_before.new.c c.in-Ok.ensures) refl c.whole.new.c c.in-Err-whole.halt c.in-Err-whole.ensures c.len-before.ensures c.len-at.ensures
    (c.or_zero.ensures ∙ ap halt_or_zero c.later.ensures)

pub expression::choice_tail-whole-requires : goal.expression::choice_tail-whole-requires
expression::choice_tail-whole-requires t c =
    let fewer = taken_shorter c.args.c.now c.take.new.self (kinds.Mark m.Question) c.take.result (c.if-not-is.ensures.yes refl) c.take.ensures.end c.take.ensures.token in
    let less = w.Reads-shorter c.in-Ok.ensures.1 in search rules

pub expression::expr_before-returns-in-Err : goal.expression::expr_before-returns-in-Err
expression::expr_before-returns-in-Err t c = before_halted c.args.kind c.args.c.now c.whole.new.c c.in-Err.halt (plain f.expr c.args.c.now c.whole.new.c c.in-Err.halt c.in-Err.ensures) c.with_last.ensures

pub expression::expr_before-returns-in-Ok-expect : goal.expression::expr_before-returns-in-Ok-expect
expression::expr_before-returns-in-Ok-expect t c = before_read c.args.kind c.args.c.now c.whole.new.c c.expect.new.self c.in-Ok.ensures.0 c.in-Ok.ensures.1 c.in-Ok-expect.ensures

pub expression::expr_before-returns-in-Err-expect : goal.expression::expr_before-returns-in-Err-expect
expression::expr_before-returns-in-Err-expect t c = before_refused c.args.kind c.args.c.now c.whole.new.c c.expect.new.self c.in-Ok.ensures.0 c.in-Ok.ensures.1 c.in-Err-expect.field-0 c.in-Err-expect.ensures

pub expression::whole-returns-then-before-eq0 : goal.expression::whole-returns-then-before-eq0
expression::whole-returns-then-before-eq0 t c = refused_front refl (row.expr_none c.args.c.now (row.none_kind c.args.c.now (sym c.len-before.ensures ∙ c.if-before-eq0.true)))

pub expression::whole-returns-in-Err : goal.expression::whole-returns-in-Err
expression::whole-returns-in-Err t c =
    let k = row.some_kind c.args.c.now (λ e. c.if-before-eq0.false (c.len-before.ensures ∙ e)) in
    halted_front (start c.args.c.now (row.expr_row c.args.c.now k.0 k.1)) refl refl c.binary.new.c c.in-Err.halt c.in-Err.ensures

pub expression::whole-later-requires-clause-order : goal.expression::whole-later-requires-clause-order
expression::whole-later-requires-clause-order t c =
    let k = row.some_kind c.args.c.now (λ e. c.if-before-eq0.false (c.len-before.ensures ∙ e)) in
    order (form_read (start c.args.c.now (row.expr_row c.args.c.now k.0 k.1)) c.binary.new.c c.in-Ok.ensures.0 c.in-Ok.ensures.1) c.len-before.ensures c.len-at.ensures

pub expression::whole-returns-in-Ok-choice_tail : goal.expression::whole-returns-in-Ok-choice_tail
expression::whole-returns-in-Ok-choice_tail t c =
    let k = row.some_kind c.args.c.now (λ e. c.if-before-eq0.false (c.len-before.ensures ∙ e)) in
    made (form_read (form_read (start c.args.c.now (row.expr_row c.args.c.now k.0 k.1)) c.binary.new.c c.in-Ok.ensures.0 c.in-Ok.ensures.1)
    c.choice_tail.new.c c.in-Ok-choice_tail.ensures.0 c.in-Ok-choice_tail.ensures.1)
    (ap (λ at. choice_part c.in-Ok-choice_tail.part at c.in-Ok.condition) c.place-place.ensures) c.chosen.result c.chosen.ensures

pub expression::whole-returns-in-Err-choice_tail : goal.expression::whole-returns-in-Err-choice_tail
expression::whole-returns-in-Err-choice_tail t c =
    let k = row.some_kind c.args.c.now (λ e. c.if-before-eq0.false (c.len-before.ensures ∙ e)) in
    halted_at (form_read (start c.args.c.now (row.expr_row c.args.c.now k.0 k.1)) c.binary.new.c c.in-Ok.ensures.0 c.in-Ok.ensures.1)
    refl c.choice_tail.new.c c.in-Err-choice_tail.halt c.in-Err-choice_tail.ensures c.len-before.ensures c.len-at.ensures c.later.ensures

pub expression::whole-choice_tail-requires : goal.expression::whole-choice_tail-requires
expression::whole-choice_tail-requires t c = let less = w.Reads-shorter c.in-Ok.ensures.0 in search rules

pub list::args-returns-then-len-eq0 : goal.list::args-returns-then-len-eq0
list::args-returns-then-len-eq0 t c = answers_nil (w.start c.args.c.now (row.no_args_end c.args.c.now (row.none_kind c.args.c.now (sym c.len.ensures ∙ c.if-len-eq0.true)))) c.new-list.ensures

pub list::args-returns-then-is : goal.list::args-returns-then-is
list::args-returns-then-is t c = answers_nil (w.start c.args.c.now (row.no_args_row c.args.c.now (c.if-is.ensures.yes refl))) c.new-list.ensures

pub list::args-returns-in-Err : goal.list::args-returns-in-Err
list::args-returns-in-Err t c =
    let k = row.some_kind c.args.c.now (λ e. c.if-len-eq0.false (c.len.ensures ∙ e)) in
    w.halted (w.start c.args.c.now (row.args_row c.args.c.now k.0 (sym k.1) (c.if-is.ensures.no refl))) c.whole.new.c c.in-Err.halt
    (plain f.expr c.args.c.now c.whole.new.c c.in-Err.halt c.in-Err.ensures)

pub list::args-returns-in-Ok-more_exprs : goal.list::args-returns-in-Ok-more_exprs
list::args-returns-in-Ok-more_exprs t c =
    let k = row.some_kind c.args.c.now (λ e. c.if-len-eq0.false (c.len.ensures ∙ e)) in
    let t = c.in-Ok-more_exprs.ensures in
    w.finished (w.form_read (w.form_read (w.start c.args.c.now (row.args_row c.args.c.now k.0 (sym k.1) (c.if-is.ensures.no refl))) c.in-Ok.ensures.0 c.in-Ok.ensures.1)
    t.1 t.3) (t.2 ∙ ap (λ l. l ++ t.0) (c.in-Ok-push.ensures.ok ∙ ap (λ l. l ++ c.in-Ok.first ∷ []) c.new-list.ensures))

pub list::args-returns-in-Err-more_exprs : goal.list::args-returns-in-Err-more_exprs
list::args-returns-in-Err-more_exprs t c =
    let k = row.some_kind c.args.c.now (λ e. c.if-len-eq0.false (c.len.ensures ∙ e)) in
    w.halted (w.form_read (w.start c.args.c.now (row.args_row c.args.c.now k.0 (sym k.1) (c.if-is.ensures.no refl))) c.in-Ok.ensures.0 c.in-Ok.ensures.1)
    c.more_exprs.new.c c.in-Err-more_exprs.halt c.in-Err-more_exprs.ensures

pub list::args-more_exprs-requires : goal.list::args-more_exprs-requires
list::args-more_exprs-requires t c = let less = w.Reads-shorter c.in-Ok.ensures.0 in search rules

pub list::more_exprs-each-init : goal.list::more_exprs-each-init
list::more_exprs-each-init t c = Went-none c.args.c.now c.args.list.now

pub list::more_exprs-each-preserved : goal.list::more_exprs-each-preserved
list::more_exprs-each-preserved t c =
    let fewer = taken_shorter c.each.c c.take.new.self (kinds.Mark m.Comma) c.take.result (c.each-test.ensures.yes refl) c.take.ensures.end c.take.ensures.token in
    let less = w.Reads-shorter c.in-Ok.ensures.0 in
    subst (λ l. Went c.args.c.now c.args.list.now c.whole.new.c l) (sym c.in-Ok-push.ensures.ok)
    (Went-more c.each.invariant c.whole.new.c c.in-Ok.next (w.form_read (w.mark_passed (w.start c.each.c (row.more_row c.each.c (c.each-test.ensures.yes refl))) c.take.new.self (c.each-test.ensures.yes refl) c.take.ensures.end c.take.ensures.token) c.in-Ok.ensures.0 c.in-Ok.ensures.1) (omega arith))

pub list::more_exprs-each-smaller : goal.list::more_exprs-each-smaller
list::more_exprs-each-smaller t c =
    let fewer = taken_shorter c.each.c c.take.new.self (kinds.Mark m.Comma) c.take.result (c.each-test.ensures.yes refl) c.take.ensures.end c.take.ensures.token in
    let less = w.Reads-shorter c.in-Ok.ensures.0 in
    omega arith

pub list::more_exprs-returns : goal.list::more_exprs-returns
list::more_exprs-returns t c = Went-done c.each.invariant (w.start c.each.c (row.no_more_row c.each.c (c.each-test.ensures.no refl)))

pub list::more_exprs-returns-in-Err : goal.list::more_exprs-returns-in-Err
list::more_exprs-returns-in-Err t c =
    Went-halted c.each.invariant c.whole.new.c c.in-Err.halt (w.halted (w.mark_passed (w.start c.each.c (row.more_row c.each.c (c.each-test.ensures.yes refl))) c.take.new.self (c.each-test.ensures.yes refl) c.take.ensures.end c.take.ensures.token) c.whole.new.c c.in-Err.halt (plain f.expr c.take.new.self c.whole.new.c c.in-Err.halt c.in-Err.ensures))

pub postfix::bits_tail-returns-then-is : goal.postfix::bits_tail-returns-then-is
postfix::bits_tail-returns-then-is t c =
    finished_as bits_part (mark_passed (start c.args.c.now (row.close_row c.args.c.now (c.if-is.ensures.yes refl))) c.take.new.self (c.if-is.ensures.yes refl) c.take.ensures.end c.take.ensures.token) None refl

pub postfix::bits_tail-returns-in-Err : goal.postfix::bits_tail-returns-in-Err
postfix::bits_tail-returns-in-Err t c =
    let gone = mark_missing (kinds.Mark m.Colon) c.args.c.now c.expect.new.self c.in-Err.field-0 c.in-Err.ensures in
    refused_here refl (row.no_bits_row c.args.c.now (c.if-is.ensures.no refl) gone.1) c.expect.new.self gone.0

pub postfix::bits_tail-returns-in-Ok-expr_before : goal.postfix::bits_tail-returns-in-Ok-expr_before
postfix::bits_tail-returns-in-Ok-expr_before t c =
    finished_as bits_part (both_read (mark_expected (start c.args.c.now (row.bits_row c.args.c.now (mark_there (kinds.Mark m.Colon) c.args.c.now c.expect.new.self c.in-Ok.ensures))) c.expect.new.self c.in-Ok.ensures) c.expr_before.new.c c.in-Ok-expr_before.ensures) (Some c.in-Ok-expr_before.low) refl

pub postfix::bits_tail-returns-in-Err-expr_before : goal.postfix::bits_tail-returns-in-Err-expr_before
postfix::bits_tail-returns-in-Err-expr_before t c =
    both_halted_same (mark_expected (start c.args.c.now (row.bits_row c.args.c.now (mark_there (kinds.Mark m.Colon) c.args.c.now c.expect.new.self c.in-Ok.ensures))) c.expect.new.self c.in-Ok.ensures) refl c.expr_before.new.c c.in-Err-expr_before.halt c.in-Err-expr_before.ensures

pub postfix::postfix_tail-returns-then-not-is : goal.postfix::postfix_tail-returns-then-not-is
postfix::postfix_tail-returns-then-not-is t c = finished_to (start c.args.c.now (row.no_index_row c.args.c.now (c.if-not-is.ensures.no refl))) refl

pub postfix::postfix_tail-returns-in-Err : goal.postfix::postfix_tail-returns-in-Err
postfix::postfix_tail-returns-in-Err t c = halted_full (mark_passed (start c.args.c.now (row.index_row c.args.c.now (c.if-not-is.ensures.yes refl))) c.take.new.self (c.if-not-is.ensures.yes refl) c.take.ensures.end c.take.ensures.token) refl c.whole.new.c c.in-Err.halt (plain f.expr c.take.new.self c.whole.new.c c.in-Err.halt c.in-Err.ensures) c.with_last.ensures

pub postfix::postfix_tail-later-requires-clause-order : goal.postfix::postfix_tail-later-requires-clause-order
postfix::postfix_tail-later-requires-clause-order t c = order (form_read (mark_passed (start c.args.c.now (row.index_row c.args.c.now (c.if-not-is.ensures.yes refl))) c.take.new.self (c.if-not-is.ensures.yes refl) c.take.ensures.end c.take.ensures.token) c.whole.new.c c.in-Ok.ensures.0 c.in-Ok.ensures.1) c.len-before.ensures c.len-behind_index.ensures

pub postfix::postfix_tail-returns-in-Err-bits_tail : goal.postfix::postfix_tail-returns-in-Err-bits_tail
postfix::postfix_tail-returns-in-Err-bits_tail t c =
    halted_at (form_read (mark_passed (start c.args.c.now (row.index_row c.args.c.now (c.if-not-is.ensures.yes refl))) c.take.new.self (c.if-not-is.ensures.yes refl) c.take.ensures.end c.take.ensures.token) c.whole.new.c c.in-Ok.ensures.0 c.in-Ok.ensures.1) refl c.bits_tail.new.c c.in-Err-bits_tail.halt c.in-Err-bits_tail.ensures c.len-before.ensures c.len-behind_index.ensures (c.or_zero.ensures ∙ ap halt_or_zero c.later.ensures)

pub postfix::postfix_tail-later-requires-in-Err-postfix_tail-clause-order : goal.postfix::postfix_tail-later-requires-in-Err-postfix_tail-clause-order
postfix::postfix_tail-later-requires-in-Err-postfix_tail-clause-order t c = order (form_read (form_read (mark_passed (start c.args.c.now (row.index_row c.args.c.now (c.if-not-is.ensures.yes refl))) c.take.new.self (c.if-not-is.ensures.yes refl) c.take.ensures.end c.take.ensures.token) c.whole.new.c c.in-Ok.ensures.0 c.in-Ok.ensures.1) c.bits_tail.new.c c.in-Ok-bits_tail.ensures.0 c.in-Ok-bits_tail.ensures.1) c.len-before.ensures c.len-at.ensures

pub postfix::postfix_tail-returns-in-Ok-postfix_tail : goal.postfix::postfix_tail-returns-in-Ok-postfix_tail
postfix::postfix_tail-returns-in-Ok-postfix_tail t c =
    let t = c.in-Ok-postfix_tail.ensures in
    finished_to (form_read (form_read (form_read (mark_passed (start c.args.c.now (row.index_row c.args.c.now (c.if-not-is.ensures.yes refl))) c.take.new.self (c.if-not-is.ensures.yes refl) c.take.ensures.end c.take.ensures.token) c.whole.new.c c.in-Ok.ensures.0 c.in-Ok.ensures.1) c.bits_tail.new.c c.in-Ok-bits_tail.ensures.0 c.in-Ok-bits_tail.ensures.1) c.postfix_tail.new.c t.1 t.3) (t.2 ∙ ap (t.0 c.args.place) c.in-Ok-part_of.ensures)

pub postfix::postfix_tail-returns-in-Err-postfix_tail : goal.postfix::postfix_tail-returns-in-Err-postfix_tail
postfix::postfix_tail-returns-in-Err-postfix_tail t c =
    halted_at (form_read (form_read (mark_passed (start c.args.c.now (row.index_row c.args.c.now (c.if-not-is.ensures.yes refl))) c.take.new.self (c.if-not-is.ensures.yes refl) c.take.ensures.end c.take.ensures.token) c.whole.new.c c.in-Ok.ensures.0 c.in-Ok.ensures.1) c.bits_tail.new.c c.in-Ok-bits_tail.ensures.0 c.in-Ok-bits_tail.ensures.1) refl c.postfix_tail.new.c c.in-Err-postfix_tail.halt c.in-Err-postfix_tail.ensures c.len-before.ensures c.len-at.ensures (c.or_zero-in-Err-postfix_tail.ensures ∙ ap halt_or_zero c.later-in-Err-postfix_tail.ensures)

pub postfix::postfix_tail-bits_tail-requires : goal.postfix::postfix_tail-bits_tail-requires
postfix::postfix_tail-bits_tail-requires t c =
    let fewer = taken_shorter c.args.c.now c.take.new.self (kinds.Mark m.BracketOpen) c.take.result (c.if-not-is.ensures.yes refl) c.take.ensures.end c.take.ensures.token in
    let less = w.Reads-shorter c.in-Ok.ensures.0 in search rules

pub postfix::postfix_tail-postfix_tail-requires : goal.postfix::postfix_tail-postfix_tail-requires
postfix::postfix_tail-postfix_tail-requires t c =
    let fewer = taken_shorter c.args.c.now c.take.new.self (kinds.Mark m.BracketOpen) c.take.result (c.if-not-is.ensures.yes refl) c.take.ensures.end c.take.ensures.token in
    let less = w.Reads-shorter c.in-Ok.ensures.0 in
    let least = w.Reads-shorter c.in-Ok-bits_tail.ensures.0 in search rules

pub primary::name_tail-returns-then-not-is : goal.primary::name_tail-returns-then-not-is
primary::name_tail-returns-then-not-is t c = finished_as name_part (start c.args.c.now (row.alone_row c.args.c.now (c.if-is.ensures.no refl) (c.if-not-is.ensures.no refl))) Alone refl

pub primary::name_tail-returns-in-Err : goal.primary::name_tail-returns-in-Err
primary::name_tail-returns-in-Err t c = halted_full (mark_passed (start c.args.c.now (row.call_row c.args.c.now (c.if-not-is.ensures.yes refl))) c.take.new.self (c.if-not-is.ensures.yes refl) c.take.ensures.end c.take.ensures.token) refl c.args-2.new.c c.in-Err.halt c.in-Err.ensures c.with_last.ensures

pub primary::name_tail-returns-in-Ok-expect : goal.primary::name_tail-returns-in-Ok-expect
primary::name_tail-returns-in-Ok-expect t c =
    finished_as name_part (mark_expected (form_read (mark_passed (start c.args.c.now (row.call_row c.args.c.now (c.if-not-is.ensures.yes refl))) c.take.new.self (c.if-not-is.ensures.yes refl) c.take.ensures.end c.take.ensures.token) c.args-2.new.c c.in-Ok.ensures.0 c.in-Ok.ensures.1) c.expect.new.self c.in-Ok-expect.ensures) (Call c.in-Ok.arguments) refl

pub primary::name_tail-returns-in-Err-expect : goal.primary::name_tail-returns-in-Err-expect
primary::name_tail-returns-in-Err-expect t c =
    refused_mark (form_read (mark_passed (start c.args.c.now (row.call_row c.args.c.now (c.if-not-is.ensures.yes refl))) c.take.new.self (c.if-not-is.ensures.yes refl) c.take.ensures.end c.take.ensures.token) c.args-2.new.c c.in-Ok.ensures.0 c.in-Ok.ensures.1) c.expect.new.self c.in-Err-expect.field-0 c.in-Err-expect.ensures

pub primary::primary-returns-in-None : goal.primary::primary-returns-in-None
primary::primary-returns-in-None t c = refused_front refl (row.primary_none c.args.c.now c.in-None.ensures)

pub primary::primary-returns-then-not-is_name : goal.primary::primary-returns-then-not-is_name
primary::primary-returns-then-not-is_name t c =
    refused_front refl (row.no_primary c.args.c.now c.in-Some.kind (sym c.in-Some.ensures) (sym c.is_name.ensures ∙ c.if-not-is_name.true) (c.if-is.ensures.no refl) (c.if-is-2.ensures.no refl) (c.if-is-3.ensures.no refl))

pub primary::primary-returns-in-Err : goal.primary::primary-returns-in-Err
primary::primary-returns-in-Err t c = halted_front (start c.args.c.now (row.named_row c.args.c.now c.in-Some.kind (sym c.in-Some.ensures) (sym c.is_name.ensures ∙ c.if-not-is_name.false) (c.if-is.ensures.no refl) (c.if-is-2.ensures.no refl) (c.if-is-3.ensures.no refl))) refl refl c.ident.new.c c.in-Err.halt c.in-Err.ensures

pub primary::primary-later-requires-clause-order : goal.primary::primary-later-requires-clause-order
primary::primary-later-requires-clause-order t c =
    order (form_read (start c.args.c.now (row.named_row c.args.c.now c.in-Some.kind (sym c.in-Some.ensures) (sym c.is_name.ensures ∙ c.if-not-is_name.false) (c.if-is.ensures.no refl) (c.if-is-2.ensures.no refl) (c.if-is-3.ensures.no refl))) c.ident.new.c c.in-Ok.ensures.0 c.in-Ok.ensures.1) c.len-before.ensures c.len-at.ensures

pub primary::primary-returns-in-Ok-name_tail : goal.primary::primary-returns-in-Ok-name_tail
primary::primary-returns-in-Ok-name_tail t c =
    finished (form_read (form_read (start c.args.c.now (row.named_row c.args.c.now c.in-Some.kind (sym c.in-Some.ensures) (sym c.is_name.ensures ∙ c.if-not-is_name.false) (c.if-is.ensures.no refl) (c.if-is-2.ensures.no refl) (c.if-is-3.ensures.no refl))) c.ident.new.c c.in-Ok.ensures.0 c.in-Ok.ensures.1)
    c.name_tail.new.c c.in-Ok-name_tail.ensures.0 c.in-Ok-name_tail.ensures.1) c.named.ensures

pub primary::primary-returns-in-Err-name_tail : goal.primary::primary-returns-in-Err-name_tail
primary::primary-returns-in-Err-name_tail t c =
    halted_at (form_read (start c.args.c.now (row.named_row c.args.c.now c.in-Some.kind (sym c.in-Some.ensures) (sym c.is_name.ensures ∙ c.if-not-is_name.false) (c.if-is.ensures.no refl) (c.if-is-2.ensures.no refl) (c.if-is-3.ensures.no refl))) c.ident.new.c c.in-Ok.ensures.0 c.in-Ok.ensures.1) refl c.name_tail.new.c c.in-Err-name_tail.halt c.in-Err-name_tail.ensures
    c.len-before.ensures c.len-at.ensures c.later.ensures

pub primary::primary-name_tail-requires : goal.primary::primary-name_tail-requires
primary::primary-name_tail-requires t c = let less = w.Reads-shorter c.in-Ok.ensures.0 in search rules

pub primary::select-returns-in-Err : goal.primary::select-returns-in-Err
primary::select-returns-in-Err t c = refused_mark (mark_passed (start c.args.c.now (row.select_row c.args.c.now c.requires)) c.take.new.self c.requires c.take.ensures.end c.take.ensures.token) c.expect.new.self c.in-Err.field-0 c.in-Err.ensures

pub primary::select-returns-in-Err-expr_before : goal.primary::select-returns-in-Err-expr_before
primary::select-returns-in-Err-expr_before t c = both_halted_same (mark_expected (mark_passed (start c.args.c.now (row.select_row c.args.c.now c.requires)) c.take.new.self c.requires c.take.ensures.end c.take.ensures.token) c.expect.new.self c.in-Ok.ensures) refl c.expr_before.new.c c.in-Err-expr_before.halt c.in-Err-expr_before.ensures

pub primary::select-returns-in-Err-expr_before-2 : goal.primary::select-returns-in-Err-expr_before-2
primary::select-returns-in-Err-expr_before-2 t c = both_halted_same (both_read (mark_expected (mark_passed (start c.args.c.now (row.select_row c.args.c.now c.requires)) c.take.new.self c.requires c.take.ensures.end c.take.ensures.token) c.expect.new.self c.in-Ok.ensures) c.expr_before.new.c c.in-Ok-expr_before.ensures) refl c.expr_before-2.new.c c.in-Err-expr_before-2.halt c.in-Err-expr_before-2.ensures

pub primary::select-returns-in-Ok-expr_before-3 : goal.primary::select-returns-in-Ok-expr_before-3
primary::select-returns-in-Ok-expr_before-3 t c =
    made (both_read (both_read (both_read (mark_expected (mark_passed (start c.args.c.now (row.select_row c.args.c.now c.requires)) c.take.new.self c.requires c.take.ensures.end c.take.ensures.token) c.expect.new.self c.in-Ok.ensures) c.expr_before.new.c c.in-Ok-expr_before.ensures) c.expr_before-2.new.c c.in-Ok-expr_before-2.ensures) c.expr_before-3.new.c c.in-Ok-expr_before-3.ensures) (ap (λ at. e.Select at c.in-Ok-expr_before.condition c.in-Ok-expr_before-2.yes c.in-Ok-expr_before-3.no) c.place-place.ensures) c.select_of.result c.select_of.ensures

pub primary::select-returns-in-Err-expr_before-3 : goal.primary::select-returns-in-Err-expr_before-3
primary::select-returns-in-Err-expr_before-3 t c = both_halted_same (both_read (both_read (mark_expected (mark_passed (start c.args.c.now (row.select_row c.args.c.now c.requires)) c.take.new.self c.requires c.take.ensures.end c.take.ensures.token) c.expect.new.self c.in-Ok.ensures) c.expr_before.new.c c.in-Ok-expr_before.ensures) c.expr_before-2.new.c c.in-Ok-expr_before-2.ensures) refl c.expr_before-3.new.c c.in-Err-expr_before-3.halt c.in-Err-expr_before-3.ensures

pub primary::select-expr_before-requires-2 : goal.primary::select-expr_before-requires-2
primary::select-expr_before-requires-2 t c =
    let fewer = taken_shorter c.args.c.now c.take.new.self kinds.Select c.take.result c.requires c.take.ensures.end c.take.ensures.token in
    let opened = ap length c.in-Ok.ensures.1 in
    let less = w.Reads-shorter c.in-Ok-expr_before.ensures.1 in search rules

pub primary::select-expr_before-requires-3 : goal.primary::select-expr_before-requires-3
primary::select-expr_before-requires-3 t c =
    let fewer = taken_shorter c.args.c.now c.take.new.self kinds.Select c.take.result c.requires c.take.ensures.end c.take.ensures.token in
    let opened = ap length c.in-Ok.ensures.1 in
    let less = w.Reads-shorter c.in-Ok-expr_before.ensures.1 in
    let least = w.Reads-shorter c.in-Ok-expr_before-2.ensures.1 in search rules

pub primary::width-returns-in-Err : goal.primary::width-returns-in-Err
primary::width-returns-in-Err t c =
    refused_mark (mark_passed (start c.args.c.now (row.width_row c.args.c.now c.requires)) c.take.new.self c.requires c.take.ensures.end c.take.ensures.token)
    c.expect.new.self c.in-Err.field-0 c.in-Err.ensures

pub primary::width-returns-in-Ok-expr_before : goal.primary::width-returns-in-Ok-expr_before
primary::width-returns-in-Ok-expr_before t c =
    made (both_read (mark_expected (mark_passed (start c.args.c.now (row.width_row c.args.c.now c.requires)) c.take.new.self c.requires c.take.ensures.end c.take.ensures.token)
    c.expect.new.self c.in-Ok.ensures) c.expr_before.new.c c.in-Ok-expr_before.ensures) (ap (λ at. e.Width at c.in-Ok-expr_before.of) c.place-place.ensures) c.width_of.result c.width_of.ensures

pub primary::width-returns-in-Err-expr_before : goal.primary::width-returns-in-Err-expr_before
primary::width-returns-in-Err-expr_before t c =
    both_halted_same (mark_expected (mark_passed (start c.args.c.now (row.width_row c.args.c.now c.requires)) c.take.new.self c.requires c.take.ensures.end c.take.ensures.token)
    c.expect.new.self c.in-Ok.ensures) refl c.expr_before.new.c c.in-Err-expr_before.halt c.in-Err-expr_before.ensures

pub types::size-returns-in-None : goal.types::size-returns-in-None
types::size-returns-in-None t c = w.refused_front (row.size_none c.args.c.now c.in-None.ensures) c.args.c.now refl None

pub types::size-returns-in-Ok : goal.types::size-returns-in-Ok
types::size-returns-in-Ok t c = w.finished (w.form_read (w.start c.args.c.now (row.size_name_row c.args.c.now c.in-Some.kind (sym c.in-Some.ensures) (sym c.is_name.ensures ∙ c.if-is_name.true) (c.if-is.ensures.no refl))) c.in-Ok.ensures.0 c.in-Ok.ensures.1) refl

pub types::size-returns-in-Err : goal.types::size-returns-in-Err
types::size-returns-in-Err t c = w.halted (w.start c.args.c.now (row.size_name_row c.args.c.now c.in-Some.kind (sym c.in-Some.ensures) (sym c.is_name.ensures ∙ c.if-is_name.true) (c.if-is.ensures.no refl))) c.name.new.c c.in-Err.halt c.in-Err.ensures

pub types::size-returns-in-Err-expect : goal.types::size-returns-in-Err-expect
types::size-returns-in-Err-expect t c =
    let gone = mark_missing (kinds.Mark m.ParenOpen) c.args.c.now c.expect.new.self c.in-Err-expect.field-0 c.in-Err-expect.ensures in
    w.refused_front (row.no_size c.args.c.now c.in-Some.kind (sym c.in-Some.ensures) (sym c.is_name.ensures ∙ c.if-is_name.false) (c.if-is.ensures.no refl) gone.1) c.expect.new.self gone.0 None

pub types::size-returns-in-Ok-expr_before : goal.types::size-returns-in-Ok-expr_before
types::size-returns-in-Ok-expr_before t c =
    plain_answer f.size c.args.c.now c.expr_before.new.c c.size_of.result
    (made (both_read (mark_expected (start c.args.c.now (row.size_expr_row c.args.c.now (mark_there (kinds.Mark m.ParenOpen) c.args.c.now c.expect.new.self c.in-Ok-expect.ensures))) c.expect.new.self c.in-Ok-expect.ensures) c.expr_before.new.c c.in-Ok-expr_before.ensures) refl c.size_of.result c.size_of.ensures)

pub types::size-returns-in-Err-expr_before : goal.types::size-returns-in-Err-expr_before
types::size-returns-in-Err-expr_before t c =
    plain f.size c.args.c.now c.expr_before.new.c c.in-Err-expr_before.halt
    (both_halted_same (mark_expected (start c.args.c.now (row.size_expr_row c.args.c.now (mark_there (kinds.Mark m.ParenOpen) c.args.c.now c.expect.new.self c.in-Ok-expect.ensures))) c.expect.new.self c.in-Ok-expect.ensures) refl c.expr_before.new.c c.in-Err-expr_before.halt c.in-Err-expr_before.ensures)

pub types::type_of-returns-in-None : goal.types::type_of-returns-in-None
types::type_of-returns-in-None t c = c.in-None.ensures.words

pub types::type_of-returns-in-Ok : goal.types::type_of-returns-in-Ok
types::type_of-returns-in-Ok t c = w.finished (w.form_read c.in-Some.ensures.words c.in-Ok.ensures.0 c.in-Ok.ensures.1) (c.typed.ensures ∙ ap (λ at. type_part c.in-Some.head at c.in-Ok.size) c.place-place.ensures)

pub types::type_of-returns-in-Err : goal.types::type_of-returns-in-Err
types::type_of-returns-in-Err t c = w.halted c.in-Some.ensures.words c.size.new.c c.in-Err.halt c.in-Err.ensures

pub types::type_of-size-requires : goal.types::type_of-size-requires
types::type_of-size-requires t c = let less = c.in-Some.ensures.shorter in search rules

pub unary::cast-returns-in-Err : goal.unary::cast-returns-in-Err
unary::cast-returns-in-Err t c =
    let r = first c.args.c.now c.requires in
    halted_full (start c.args.c.now (row.cast_row c.args.c.now r.0 r.1 r.2)) refl c.type_of.new.c c.in-Err.halt c.in-Err.ensures c.with_last.ensures

pub unary::cast-returns-in-Err-expect : goal.unary::cast-returns-in-Err-expect
unary::cast-returns-in-Err-expect t c =
    let r = first c.args.c.now c.requires in
    refused_mark (form_read (start c.args.c.now (row.cast_row c.args.c.now r.0 r.1 r.2)) c.type_of.new.c c.in-Ok.ensures.0 c.in-Ok.ensures.1)
    c.expect.new.self c.in-Err-expect.field-0 c.in-Err-expect.ensures

pub unary::cast-later-requires-clause-order : goal.unary::cast-later-requires-clause-order
unary::cast-later-requires-clause-order t c =
    let r = first c.args.c.now c.requires in
    order (mark_expected (form_read (start c.args.c.now (row.cast_row c.args.c.now r.0 r.1 r.2)) c.type_of.new.c c.in-Ok.ensures.0 c.in-Ok.ensures.1)
    c.expect.new.self c.in-Ok-expect.ensures) c.len-before.ensures c.len-at.ensures

pub unary::cast-returns-in-Ok-unary : goal.unary::cast-returns-in-Ok-unary
unary::cast-returns-in-Ok-unary t c =
    let r = first c.args.c.now c.requires in
    made_to (λ tail. tail c.args.place) (form_read (mark_expected (form_read (start c.args.c.now (row.cast_row c.args.c.now r.0 r.1 r.2)) c.type_of.new.c c.in-Ok.ensures.0 c.in-Ok.ensures.1)
    c.expect.new.self c.in-Ok-expect.ensures) c.unary.new.c c.in-Ok-unary.ensures.0 c.in-Ok-unary.ensures.1) refl c.cast_of.result c.cast_of.ensures

pub unary::cast-returns-in-Err-unary : goal.unary::cast-returns-in-Err-unary
unary::cast-returns-in-Err-unary t c =
    let r = first c.args.c.now c.requires in
    halted_at (mark_expected (form_read (start c.args.c.now (row.cast_row c.args.c.now r.0 r.1 r.2)) c.type_of.new.c c.in-Ok.ensures.0 c.in-Ok.ensures.1)
    c.expect.new.self c.in-Ok-expect.ensures) refl c.unary.new.c c.in-Err-unary.halt c.in-Err-unary.ensures c.len-before.ensures c.len-at.ensures c.later.ensures

pub unary::cast-unary-requires : goal.unary::cast-unary-requires
unary::cast-unary-requires t c =
    let less = w.Reads-shorter c.in-Ok.ensures.0 in
    let close = ap length c.in-Ok-expect.ensures.1 in search rules

pub unary::operand-returns-in-Ok : goal.unary::operand-returns-in-Ok
unary::operand-returns-in-Ok t c =
    let r = operator c.args.c.now c.args.op c.requires in
    made (form_read (mark_passed (start c.args.c.now (row.operand_row c.args.c.now r.0 c.args.op r.1 r.2)) c.take.new.self r.1 c.take.ensures.end c.take.ensures.token)
    c.unary.new.c c.in-Ok.ensures.0 c.in-Ok.ensures.1) (ap (λ at. e.Unary at c.args.op c.in-Ok.of) c.place-place.ensures) c.unary_of.result c.unary_of.ensures

pub unary::operand-returns-in-Err : goal.unary::operand-returns-in-Err
unary::operand-returns-in-Err t c =
    let r = operator c.args.c.now c.args.op c.requires in
    halted_at (mark_passed (start c.args.c.now (row.operand_row c.args.c.now r.0 c.args.op r.1 r.2)) c.take.new.self r.1 c.take.ensures.end c.take.ensures.token)
    refl c.unary.new.c c.in-Err.halt c.in-Err.ensures c.len-before.ensures c.len-at.ensures c.later.ensures

pub unary::paren_tail-returns-in-None : goal.unary::paren_tail-returns-in-None
unary::paren_tail-returns-in-None t c = refused_front refl (row.paren_none c.args.c.now c.in-None.ensures)

pub unary::paren_tail-returns-in-Err : goal.unary::paren_tail-returns-in-Err
unary::paren_tail-returns-in-Err t c =
    both_halted_same (start c.args.c.now (row.inner_row c.args.c.now c.in-Some.kind (sym c.in-Some.ensures) (sym c.begins_type.ensures ∙ c.if-begins_type.false))) refl c.expr_before.new.c c.in-Err.halt c.in-Err.ensures

pub unary::paren_tail-later-requires-clause-order : goal.unary::paren_tail-later-requires-clause-order
unary::paren_tail-later-requires-clause-order t c =
    order (both_read (start c.args.c.now (row.inner_row c.args.c.now c.in-Some.kind (sym c.in-Some.ensures) (sym c.begins_type.ensures ∙ c.if-begins_type.false))) c.expr_before.new.c c.in-Ok.ensures)
    c.len-before.ensures c.len-at.ensures

pub unary::paren_tail-returns-in-Ok-postfix_tail : goal.unary::paren_tail-returns-in-Ok-postfix_tail
unary::paren_tail-returns-in-Ok-postfix_tail t c =
    let t = c.in-Ok-postfix_tail.ensures in
    finished_to (form_read (both_read (start c.args.c.now (row.inner_row c.args.c.now c.in-Some.kind (sym c.in-Some.ensures) (sym c.begins_type.ensures ∙ c.if-begins_type.false))) c.expr_before.new.c c.in-Ok.ensures)
    c.postfix_tail.new.c t.1 t.3) t.2

pub unary::paren_tail-returns-in-Err-postfix_tail : goal.unary::paren_tail-returns-in-Err-postfix_tail
unary::paren_tail-returns-in-Err-postfix_tail t c =
    halted_at (both_read (start c.args.c.now (row.inner_row c.args.c.now c.in-Some.kind (sym c.in-Some.ensures) (sym c.begins_type.ensures ∙ c.if-begins_type.false))) c.expr_before.new.c c.in-Ok.ensures)
    refl c.postfix_tail.new.c c.in-Err-postfix_tail.halt c.in-Err-postfix_tail.ensures c.len-before.ensures c.len-at.ensures c.later.ensures

pub unary::paren_tail-postfix_tail-requires : goal.unary::paren_tail-postfix_tail-requires
unary::paren_tail-postfix_tail-requires t c = let less = w.Reads-shorter c.in-Ok.ensures.1 in search rules

pub unary::unary-returns-in-None : goal.unary::unary-returns-in-None
unary::unary-returns-in-None t c = refused_front refl (row.unary_none c.args.c.now c.in-None.ensures)

pub unary::unary-returns-in-Err : goal.unary::unary-returns-in-Err
unary::unary-returns-in-Err t c =
    halted_at (mark_passed (start c.args.c.now (row.bracket_row c.args.c.now (c.if-is.ensures.yes refl))) c.take.new.self (c.if-is.ensures.yes refl) c.take.ensures.end c.take.ensures.token)
    refl c.paren_tail.new.c c.in-Err.halt c.in-Err.ensures c.len-before.ensures c.len-at.ensures c.later.ensures

pub unary::unary-returns-in-Ok : goal.unary::unary-returns-in-Ok
unary::unary-returns-in-Ok t c =
    let t = c.in-Ok.ensures in
    finished (form_read (mark_passed (start c.args.c.now (row.bracket_row c.args.c.now (c.if-is.ensures.yes refl))) c.take.new.self (c.if-is.ensures.yes refl) c.take.ensures.end c.take.ensures.token)
    c.paren_tail.new.c t.1 t.3) (t.2 ∙ ap t.0 c.place-place.ensures)

pub unary::unary-returns-in-Err-primary : goal.unary::unary-returns-in-Err-primary
unary::unary-returns-in-Err-primary t c =
    halted_front (start c.args.c.now (row.primary_row c.args.c.now c.in-Some.kind (sym c.in-Some.ensures) (sym c.in_default.ensures) (c.if-is.ensures.no refl)))
    refl refl c.primary.new.c c.in-Err-primary.halt c.in-Err-primary.ensures

pub unary::unary-later-requires-in-Err-postfix_tail-clause-order : goal.unary::unary-later-requires-in-Err-postfix_tail-clause-order
unary::unary-later-requires-in-Err-postfix_tail-clause-order t c =
    order (form_read (start c.args.c.now (row.primary_row c.args.c.now c.in-Some.kind (sym c.in-Some.ensures) (sym c.in_default.ensures) (c.if-is.ensures.no refl)))
    c.primary.new.c c.in-Ok-primary.ensures.0 c.in-Ok-primary.ensures.1) c.len-before.ensures c.len-at-2.ensures

pub unary::unary-returns-in-Ok-postfix_tail : goal.unary::unary-returns-in-Ok-postfix_tail
unary::unary-returns-in-Ok-postfix_tail t c =
    let t = c.in-Ok-postfix_tail.ensures in
    finished (form_read (form_read (start c.args.c.now (row.primary_row c.args.c.now c.in-Some.kind (sym c.in-Some.ensures) (sym c.in_default.ensures) (c.if-is.ensures.no refl)))
    c.primary.new.c c.in-Ok-primary.ensures.0 c.in-Ok-primary.ensures.1) c.postfix_tail.new.c t.1 t.3) (t.2 ∙ ap (λ at. t.0 at c.in-Ok-primary.first) c.place-place.ensures)

pub unary::unary-returns-in-Err-postfix_tail : goal.unary::unary-returns-in-Err-postfix_tail
unary::unary-returns-in-Err-postfix_tail t c =
    halted_at (form_read (start c.args.c.now (row.primary_row c.args.c.now c.in-Some.kind (sym c.in-Some.ensures) (sym c.in_default.ensures) (c.if-is.ensures.no refl)))
    c.primary.new.c c.in-Ok-primary.ensures.0 c.in-Ok-primary.ensures.1) refl c.postfix_tail.new.c c.in-Err-postfix_tail.halt c.in-Err-postfix_tail.ensures
    c.len-before.ensures c.len-at-2.ensures c.later-in-Err-postfix_tail.ensures

pub unary::unary-postfix_tail-requires : goal.unary::unary-postfix_tail-requires
unary::unary-postfix_tail-requires t c = let less = w.Reads-shorter c.in-Ok-primary.ensures.0 in search rules
