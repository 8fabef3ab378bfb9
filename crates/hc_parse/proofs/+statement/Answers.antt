use Rattle.std.proofs.Common.{◌++◌, true, false, [], ◌∷◌, length, Some, None, refl, sym, ap, subst, ◌∙◌, append_assoc, arith, rules}
use Rattle.std.proofs.lemmas.List.{append-nil}
use Rattle.hc_tree.specs.declared.stmt.Block.{roll-Block}
use Rattle.hc_tree.specs.declared.stmt.Stmt.TheVariants as s
use Rattle.hc_tree.specs.declared.stmt.Arm.{roll-Arm}
use Rattle.hc_tree.specs.declared.stmt.Case.{roll-Case}
use Rattle.hc_tree.specs.declared.stmt.Other.{roll-Other}
use Rattle.hc_lex.specs.declared.mark.Mark.TheVariants as m
use Rattle.hc_grammar.specs.declared.kind.Kind.TheVariants as kinds
use Rattle.hc_grammar.specs.Form as f
use Rattle.hc_grammar.specs.Cursor.{place_at}
use Rattle.hc_grammar.specs.Kind.{is_name}
use Rattle.hc_grammar.specs.Walk as w
use Rattle.hc_exparse.proofs.Walk.{mark_there}
use Rattle.hc_parse.specs.Turn as turn
use Rattle.hc_parse.proofs.RowsStatement as row
use Rattle.hc_parse.proofs.WalksStatement as more
use Rattle.hc_parse.proofs.TurnsStatement as turns
use Rattle.hc_parse.proofs.+statement.Goals as goal

pub conditional::conditional-returns-in-Err : goal.conditional::conditional-returns-in-Err
conditional::conditional-returns-in-Err t c = c.in-Err.ensures _ _ _ _ (w.mark_passed (w.start c.args.c.now (row.if_row c.args.word c.args.c.now c.requires)) c.take.new.self c.requires c.take.ensures.end c.take.ensures.token)

pub conditional::conditional-returns-in-Err-stmt : goal.conditional::conditional-returns-in-Err-stmt
conditional::conditional-returns-in-Err-stmt t c = w.halted (c.in-Ok.ensures.0 _ _ _ _ (w.mark_passed (w.start c.args.c.now (row.if_row c.args.word c.args.c.now c.requires)) c.take.new.self c.requires c.take.ensures.end c.take.ensures.token)) c.stmt.new.c c.in-Err-stmt.halt c.in-Err-stmt.ensures

pub conditional::conditional-returns-in-Err-else_tail : goal.conditional::conditional-returns-in-Err-else_tail
conditional::conditional-returns-in-Err-else_tail t c = w.halted (w.form_read (c.in-Ok.ensures.0 _ _ _ _ (w.mark_passed (w.start c.args.c.now (row.if_row c.args.word c.args.c.now c.requires)) c.take.new.self c.requires c.take.ensures.end c.take.ensures.token)) c.in-Ok-stmt.ensures.0 c.in-Ok-stmt.ensures.1) c.else_tail.new.c c.in-Err-else_tail.halt c.in-Err-else_tail.ensures

pub conditional::conditional-returns-in-Ok-else_tail : goal.conditional::conditional-returns-in-Ok-else_tail
conditional::conditional-returns-in-Ok-else_tail t c = more.made (w.form_read (w.form_read (c.in-Ok.ensures.0 _ _ _ _ (w.mark_passed (w.start c.args.c.now (row.if_row c.args.word c.args.c.now c.requires)) c.take.new.self c.requires c.take.ensures.end c.take.ensures.token)) c.in-Ok-stmt.ensures.0 c.in-Ok-stmt.ensures.1) c.in-Ok-else_tail.ensures.0 c.in-Ok-else_tail.ensures.1) (ap (λ at. s.If at c.args.word c.in-Ok.condition c.in-Ok-stmt.yes c.in-Ok-else_tail.no) c.place-place.ensures) c.if_of.result c.if_of.ensures

pub conditional::conditional-stmt-requires : goal.conditional::conditional-stmt-requires
conditional::conditional-stmt-requires t c = let t0 = more.taken_shorter c.args.c.now c.take.new.self (turn.condition_word c.args.word) c.take.result c.requires c.take.ensures.end c.take.ensures.token in let t1 = c.in-Ok.ensures.1 in search rules

pub conditional::conditional-else_tail-requires : goal.conditional::conditional-else_tail-requires
conditional::conditional-else_tail-requires t c = let t0 = more.taken_shorter c.args.c.now c.take.new.self (turn.condition_word c.args.word) c.take.result c.requires c.take.ensures.end c.take.ensures.token in let t1 = c.in-Ok.ensures.1 in let t2 = w.Reads-shorter c.in-Ok-stmt.ensures.0 in search rules

pub conditional::else_tail-returns-in-Err : goal.conditional::else_tail-returns-in-Err
conditional::else_tail-returns-in-Err t c = w.halted (w.mark_passed (w.start c.args.c.now (row.else_row c.args.c.now (c.if-not-is.ensures.yes refl))) c.take.new.self (c.if-not-is.ensures.yes refl) c.take.ensures.end c.take.ensures.token) c.stmt.new.c c.in-Err.halt c.in-Err.ensures

pub conditional::else_tail-returns-in-Ok : goal.conditional::else_tail-returns-in-Ok
conditional::else_tail-returns-in-Ok t c = w.finished (w.form_read (w.mark_passed (w.start c.args.c.now (row.else_row c.args.c.now (c.if-not-is.ensures.yes refl))) c.take.new.self (c.if-not-is.ensures.yes refl) c.take.ensures.end c.take.ensures.token) c.in-Ok.ensures.0 c.in-Ok.ensures.1) refl

pub conditional::else_tail-returns-then-not-is : goal.conditional::else_tail-returns-then-not-is
conditional::else_tail-returns-then-not-is t c = w.finished (w.start c.args.c.now (row.no_else_row c.args.c.now (c.if-not-is.ensures.no refl))) refl

pub conditional::while_stmt-returns-in-Err : goal.conditional::while_stmt-returns-in-Err
conditional::while_stmt-returns-in-Err t c = c.in-Err.ensures _ _ _ _ (w.mark_passed (w.start c.args.c.now (row.while_row c.args.c.now c.requires)) c.take.new.self c.requires c.take.ensures.end c.take.ensures.token)

pub conditional::while_stmt-returns-in-Err-stmt : goal.conditional::while_stmt-returns-in-Err-stmt
conditional::while_stmt-returns-in-Err-stmt t c = w.halted (c.in-Ok.ensures.0 _ _ _ _ (w.mark_passed (w.start c.args.c.now (row.while_row c.args.c.now c.requires)) c.take.new.self c.requires c.take.ensures.end c.take.ensures.token)) c.stmt.new.c c.in-Err-stmt.halt c.in-Err-stmt.ensures

pub conditional::while_stmt-returns-in-Ok-stmt : goal.conditional::while_stmt-returns-in-Ok-stmt
conditional::while_stmt-returns-in-Ok-stmt t c = more.made (w.form_read (c.in-Ok.ensures.0 _ _ _ _ (w.mark_passed (w.start c.args.c.now (row.while_row c.args.c.now c.requires)) c.take.new.self c.requires c.take.ensures.end c.take.ensures.token)) c.in-Ok-stmt.ensures.0 c.in-Ok-stmt.ensures.1) (ap (λ at. s.While at c.in-Ok.condition c.in-Ok-stmt.body) c.place-place.ensures) c.while_of.result c.while_of.ensures

pub conditional::while_stmt-stmt-requires : goal.conditional::while_stmt-stmt-requires
conditional::while_stmt-stmt-requires t c = let t0 = more.taken_shorter c.args.c.now c.take.new.self kinds.While c.take.result c.requires c.take.ensures.end c.take.ensures.token in let t1 = c.in-Ok.ensures.1 in search rules

pub conditional::do_stmt-returns-in-Err : goal.conditional::do_stmt-returns-in-Err
conditional::do_stmt-returns-in-Err t c = w.halted (w.mark_passed (w.start c.args.c.now (row.do_row c.args.c.now c.requires)) c.take.new.self c.requires c.take.ensures.end c.take.ensures.token) c.stmt.new.c c.in-Err.halt c.in-Err.ensures

pub conditional::do_stmt-returns-in-Err-expect : goal.conditional::do_stmt-returns-in-Err-expect
conditional::do_stmt-returns-in-Err-expect t c = w.refused_mark (w.form_read (w.mark_passed (w.start c.args.c.now (row.do_row c.args.c.now c.requires)) c.take.new.self c.requires c.take.ensures.end c.take.ensures.token) c.in-Ok.ensures.0 c.in-Ok.ensures.1) c.expect.new.self c.in-Err-expect.halt c.in-Err-expect.ensures

pub conditional::do_stmt-returns-in-Err-in_brackets : goal.conditional::do_stmt-returns-in-Err-in_brackets
conditional::do_stmt-returns-in-Err-in_brackets t c = c.in-Err-in_brackets.ensures _ _ _ _ (w.mark_expected (w.form_read (w.mark_passed (w.start c.args.c.now (row.do_row c.args.c.now c.requires)) c.take.new.self c.requires c.take.ensures.end c.take.ensures.token) c.in-Ok.ensures.0 c.in-Ok.ensures.1) c.expect.new.self c.in-Ok-expect.ensures)

pub conditional::do_stmt-returns-in-Err-expect-2 : goal.conditional::do_stmt-returns-in-Err-expect-2
conditional::do_stmt-returns-in-Err-expect-2 t c = w.refused_mark (c.in-Ok-in_brackets.ensures.0 _ _ _ _ (w.mark_expected (w.form_read (w.mark_passed (w.start c.args.c.now (row.do_row c.args.c.now c.requires)) c.take.new.self c.requires c.take.ensures.end c.take.ensures.token) c.in-Ok.ensures.0 c.in-Ok.ensures.1) c.expect.new.self c.in-Ok-expect.ensures)) c.expect-2.new.self c.in-Err-expect-2.halt c.in-Err-expect-2.ensures

pub conditional::do_stmt-returns-in-Ok-expect-2 : goal.conditional::do_stmt-returns-in-Ok-expect-2
conditional::do_stmt-returns-in-Ok-expect-2 t c = more.made (w.mark_expected (c.in-Ok-in_brackets.ensures.0 _ _ _ _ (w.mark_expected (w.form_read (w.mark_passed (w.start c.args.c.now (row.do_row c.args.c.now c.requires)) c.take.new.self c.requires c.take.ensures.end c.take.ensures.token) c.in-Ok.ensures.0 c.in-Ok.ensures.1) c.expect.new.self c.in-Ok-expect.ensures)) c.expect-2.new.self c.in-Ok-expect-2.ensures) (ap (λ at. s.DoWhile at c.in-Ok.body c.in-Ok-in_brackets.condition) c.place-place.ensures) c.do_of.result c.do_of.ensures

pub for_loop::for_stmt-returns-in-Err : goal.for_loop::for_stmt-returns-in-Err
for_loop::for_stmt-returns-in-Err t c = c.in-Err.ensures _ _ _ _ (w.mark_passed (w.start c.args.c.now (row.for_row c.args.c.now c.requires)) c.take.new.self c.requires c.take.ensures.end c.take.ensures.token)

pub for_loop::for_stmt-returns-in-Err-stmt : goal.for_loop::for_stmt-returns-in-Err-stmt
for_loop::for_stmt-returns-in-Err-stmt t c = w.halted (c.in-Ok.ensures.0 _ _ _ _ (w.mark_passed (w.start c.args.c.now (row.for_row c.args.c.now c.requires)) c.take.new.self c.requires c.take.ensures.end c.take.ensures.token)) c.stmt.new.c c.in-Err-stmt.halt c.in-Err-stmt.ensures

pub for_loop::for_stmt-returns-in-Ok-stmt : goal.for_loop::for_stmt-returns-in-Ok-stmt
for_loop::for_stmt-returns-in-Ok-stmt t c = more.made (w.form_read (c.in-Ok.ensures.0 _ _ _ _ (w.mark_passed (w.start c.args.c.now (row.for_row c.args.c.now c.requires)) c.take.new.self c.requires c.take.ensures.end c.take.ensures.token)) c.in-Ok-stmt.ensures.0 c.in-Ok-stmt.ensures.1) (ap (λ at. s.For at c.in-Ok.head.first c.in-Ok.head.rest.condition c.in-Ok.head.rest.step c.in-Ok-stmt.body) c.place-place.ensures) c.for_of.result c.for_of.ensures

pub for_loop::for_stmt-stmt-requires : goal.for_loop::for_stmt-stmt-requires
for_loop::for_stmt-stmt-requires t c = let t0 = more.taken_shorter c.args.c.now c.take.new.self kinds.For c.take.result c.requires c.take.ensures.end c.take.ensures.token in let t1 = c.in-Ok.ensures.1 in search rules

pub ordered::ordered-returns-in-Err : goal.ordered::ordered-returns-in-Err
ordered::ordered-returns-in-Err t c = w.halted (w.mark_passed (w.start c.args.c.now (row.ordered_row c.args.order c.args.c.now c.requires)) c.take.new.self c.requires c.take.ensures.end c.take.ensures.token) c.order_tail.new.c c.in-Err.halt c.in-Err.ensures

pub ordered::ordered-returns-in-Ok : goal.ordered::ordered-returns-in-Ok
ordered::ordered-returns-in-Ok t c = w.finished (w.form_read (w.mark_passed (w.start c.args.c.now (row.ordered_row c.args.order c.args.c.now c.requires)) c.take.new.self c.requires c.take.ensures.end c.take.ensures.token) c.in-Ok.ensures.1 c.in-Ok.ensures.3) (c.in-Ok.ensures.2 ∙ ap c.in-Ok.ensures.0 c.place-place.ensures)

pub ordered::order_tail-returns-then-len-eq0 : goal.ordered::order_tail-returns-then-len-eq0
ordered::order_tail-returns-then-len-eq0 t c = w.refused_front (row.order_end c.args.order c.args.c.now (row.no_front c.args.c.now (sym c.len.ensures ∙ c.if-len-eq0.true))) c.args.c.now refl None

pub ordered::order_tail-returns-in-Ok : goal.ordered::order_tail-returns-in-Ok
ordered::order_tail-returns-in-Ok t c = let k = row.some_front c.args.c.now (λ e. c.if-len-eq0.false (c.len.ensures ∙ e)) in w.finished_to (w.form_read (w.start c.args.c.now (row.in_order_row c.args.order c.args.c.now k.0 k.1 (c.if-is.ensures.no refl))) c.in-Ok.ensures.0 c.in-Ok.ensures.1) c.in_order.ensures

pub ordered::order_tail-returns-in-Err : goal.ordered::order_tail-returns-in-Err
ordered::order_tail-returns-in-Err t c = let k = row.some_front c.args.c.now (λ e. c.if-len-eq0.false (c.len.ensures ∙ e)) in w.halted (w.start c.args.c.now (row.in_order_row c.args.order c.args.c.now k.0 k.1 (c.if-is.ensures.no refl))) c.block.new.c c.in-Err.halt c.in-Err.ensures

pub ordered::replicator-returns-in-Err : goal.ordered::replicator-returns-in-Err
ordered::replicator-returns-in-Err t c = w.halted (w.mark_passed (w.start c.args.c.now (row.replicator_row c.args.order c.args.c.now c.requires)) c.take.new.self c.requires c.take.ensures.end c.take.ensures.token) c.name.new.c c.in-Err.halt c.in-Err.ensures

pub ordered::replicator-returns-in-Err-expect : goal.ordered::replicator-returns-in-Err-expect
ordered::replicator-returns-in-Err-expect t c = w.refused_mark (w.form_read (w.mark_passed (w.start c.args.c.now (row.replicator_row c.args.order c.args.c.now c.requires)) c.take.new.self c.requires c.take.ensures.end c.take.ensures.token) c.in-Ok.ensures.0 c.in-Ok.ensures.1) c.expect.new.self c.in-Err-expect.halt c.in-Err-expect.ensures

pub ordered::replicator-returns-in-Err-expr_before : goal.ordered::replicator-returns-in-Err-expr_before
ordered::replicator-returns-in-Err-expr_before t c = c.in-Err-expr_before.ensures _ _ _ _ (w.mark_expected (w.form_read (w.mark_passed (w.start c.args.c.now (row.replicator_row c.args.order c.args.c.now c.requires)) c.take.new.self c.requires c.take.ensures.end c.take.ensures.token) c.in-Ok.ensures.0 c.in-Ok.ensures.1) c.expect.new.self c.in-Ok-expect.ensures)

pub ordered::replicator-returns-in-Err-expr_before-2 : goal.ordered::replicator-returns-in-Err-expr_before-2
ordered::replicator-returns-in-Err-expr_before-2 t c = c.in-Err-expr_before-2.ensures _ _ _ _ (c.in-Ok-expr_before.ensures.0 _ _ _ _ (w.mark_expected (w.form_read (w.mark_passed (w.start c.args.c.now (row.replicator_row c.args.order c.args.c.now c.requires)) c.take.new.self c.requires c.take.ensures.end c.take.ensures.token) c.in-Ok.ensures.0 c.in-Ok.ensures.1) c.expect.new.self c.in-Ok-expect.ensures))

pub ordered::replicator-returns-in-Err-simple : goal.ordered::replicator-returns-in-Err-simple
ordered::replicator-returns-in-Err-simple t c = w.halted (c.in-Ok-expr_before-2.ensures.0 _ _ _ _ (c.in-Ok-expr_before.ensures.0 _ _ _ _ (w.mark_expected (w.form_read (w.mark_passed (w.start c.args.c.now (row.replicator_row c.args.order c.args.c.now c.requires)) c.take.new.self c.requires c.take.ensures.end c.take.ensures.token) c.in-Ok.ensures.0 c.in-Ok.ensures.1) c.expect.new.self c.in-Ok-expect.ensures))) c.simple.new.c c.in-Err-simple.halt c.in-Err-simple.ensures

pub ordered::replicator-returns-in-Err-expect-2 : goal.ordered::replicator-returns-in-Err-expect-2
ordered::replicator-returns-in-Err-expect-2 t c = w.refused_mark (w.form_read (c.in-Ok-expr_before-2.ensures.0 _ _ _ _ (c.in-Ok-expr_before.ensures.0 _ _ _ _ (w.mark_expected (w.form_read (w.mark_passed (w.start c.args.c.now (row.replicator_row c.args.order c.args.c.now c.requires)) c.take.new.self c.requires c.take.ensures.end c.take.ensures.token) c.in-Ok.ensures.0 c.in-Ok.ensures.1) c.expect.new.self c.in-Ok-expect.ensures))) c.in-Ok-simple.ensures.0 c.in-Ok-simple.ensures.1) c.expect-2.new.self c.in-Err-expect-2.halt c.in-Err-expect-2.ensures

pub ordered::replicator-returns-in-Err-block : goal.ordered::replicator-returns-in-Err-block
ordered::replicator-returns-in-Err-block t c = w.halted (w.mark_expected (w.form_read (c.in-Ok-expr_before-2.ensures.0 _ _ _ _ (c.in-Ok-expr_before.ensures.0 _ _ _ _ (w.mark_expected (w.form_read (w.mark_passed (w.start c.args.c.now (row.replicator_row c.args.order c.args.c.now c.requires)) c.take.new.self c.requires c.take.ensures.end c.take.ensures.token) c.in-Ok.ensures.0 c.in-Ok.ensures.1) c.expect.new.self c.in-Ok-expect.ensures))) c.in-Ok-simple.ensures.0 c.in-Ok-simple.ensures.1) c.expect-2.new.self c.in-Ok-expect-2.ensures) c.block.new.c c.in-Err-block.halt c.in-Err-block.ensures

pub ordered::replicator-returns-in-Ok-block : goal.ordered::replicator-returns-in-Ok-block
ordered::replicator-returns-in-Ok-block t c = w.finished_to (w.form_read (w.mark_expected (w.form_read (c.in-Ok-expr_before-2.ensures.0 _ _ _ _ (c.in-Ok-expr_before.ensures.0 _ _ _ _ (w.mark_expected (w.form_read (w.mark_passed (w.start c.args.c.now (row.replicator_row c.args.order c.args.c.now c.requires)) c.take.new.self c.requires c.take.ensures.end c.take.ensures.token) c.in-Ok.ensures.0 c.in-Ok.ensures.1) c.expect.new.self c.in-Ok-expect.ensures))) c.in-Ok-simple.ensures.0 c.in-Ok-simple.ensures.1) c.expect-2.new.self c.in-Ok-expect-2.ensures) c.in-Ok-block.ensures.0 c.in-Ok-block.ensures.1) refl

pub ordered::replicator-block-requires : goal.ordered::replicator-block-requires
ordered::replicator-block-requires t c = let t0 = more.taken_shorter c.args.c.now c.take.new.self (kinds.Mark m.ParenOpen) c.take.result c.requires c.take.ensures.end c.take.ensures.token in let t1 = w.Reads-shorter c.in-Ok.ensures.0 in let t2 = ap length c.in-Ok-expect.ensures.1 in let t3 = c.in-Ok-expr_before.ensures.1 in let t4 = c.in-Ok-expr_before-2.ensures.1 in let t5 = w.Reads-shorter c.in-Ok-simple.ensures.0 in let t6 = ap length c.in-Ok-expect-2.ensures.1 in search rules

pub switch::switch-returns-in-Err : goal.switch::switch-returns-in-Err
switch::switch-returns-in-Err t c = c.in-Err.ensures _ _ _ _ (w.mark_passed (w.start c.args.c.now (row.switch_row c.args.c.now c.requires)) c.take.new.self c.requires c.take.ensures.end c.take.ensures.token)

pub switch::switch-returns-in-Err-expect : goal.switch::switch-returns-in-Err-expect
switch::switch-returns-in-Err-expect t c = w.refused_mark (c.in-Ok.ensures.0 _ _ _ _ (w.mark_passed (w.start c.args.c.now (row.switch_row c.args.c.now c.requires)) c.take.new.self c.requires c.take.ensures.end c.take.ensures.token)) c.expect.new.self c.in-Err-expect.halt c.in-Err-expect.ensures

pub switch::switch-returns-in-Err-arms : goal.switch::switch-returns-in-Err-arms
switch::switch-returns-in-Err-arms t c = w.halted (w.mark_expected (c.in-Ok.ensures.0 _ _ _ _ (w.mark_passed (w.start c.args.c.now (row.switch_row c.args.c.now c.requires)) c.take.new.self c.requires c.take.ensures.end c.take.ensures.token)) c.expect.new.self c.in-Ok-expect.ensures) c.arms.new.c c.in-Err-arms.halt c.in-Err-arms.ensures

pub switch::switch-returns-in-Err-expect-2 : goal.switch::switch-returns-in-Err-expect-2
switch::switch-returns-in-Err-expect-2 t c = w.refused_mark (w.form_read (w.mark_expected (c.in-Ok.ensures.0 _ _ _ _ (w.mark_passed (w.start c.args.c.now (row.switch_row c.args.c.now c.requires)) c.take.new.self c.requires c.take.ensures.end c.take.ensures.token)) c.expect.new.self c.in-Ok-expect.ensures) c.in-Ok-arms.ensures.0 c.in-Ok-arms.ensures.1) c.expect-2.new.self c.in-Err-expect-2.halt c.in-Err-expect-2.ensures

pub switch::switch-returns-in-Ok-expect-2 : goal.switch::switch-returns-in-Ok-expect-2
switch::switch-returns-in-Ok-expect-2 t c = w.finished (w.mark_expected (w.form_read (w.mark_expected (c.in-Ok.ensures.0 _ _ _ _ (w.mark_passed (w.start c.args.c.now (row.switch_row c.args.c.now c.requires)) c.take.new.self c.requires c.take.ensures.end c.take.ensures.token)) c.expect.new.self c.in-Ok-expect.ensures) c.in-Ok-arms.ensures.0 c.in-Ok-arms.ensures.1) c.expect-2.new.self c.in-Ok-expect-2.ensures) (ap (λ at. s.Switch at c.in-Ok.selector c.in-Ok-arms.arms) c.place-place.ensures)

pub switch::switch-arms-requires : goal.switch::switch-arms-requires
switch::switch-arms-requires t c = let t0 = more.taken_shorter c.args.c.now c.take.new.self kinds.Switch c.take.result c.requires c.take.ensures.end c.take.ensures.token in let t1 = c.in-Ok.ensures.1 in let t2 = ap length c.in-Ok-expect.ensures.1 in search rules

pub prialt::prialt-returns-in-Err : goal.prialt::prialt-returns-in-Err
prialt::prialt-returns-in-Err t c = w.refused_mark (w.mark_passed (w.start c.args.c.now (row.prialt_row c.args.c.now c.requires)) c.take.new.self c.requires c.take.ensures.end c.take.ensures.token) c.expect.new.self c.in-Err.halt c.in-Err.ensures

pub prialt::prialt-returns-in-Err-cases : goal.prialt::prialt-returns-in-Err-cases
prialt::prialt-returns-in-Err-cases t c = w.halted (w.mark_expected (w.mark_passed (w.start c.args.c.now (row.prialt_row c.args.c.now c.requires)) c.take.new.self c.requires c.take.ensures.end c.take.ensures.token) c.expect.new.self c.in-Ok.ensures) c.cases.new.c c.in-Err-cases.halt c.in-Err-cases.ensures

pub prialt::prialt-returns-in-Err-expect : goal.prialt::prialt-returns-in-Err-expect
prialt::prialt-returns-in-Err-expect t c = w.refused_mark (w.form_read (w.mark_expected (w.mark_passed (w.start c.args.c.now (row.prialt_row c.args.c.now c.requires)) c.take.new.self c.requires c.take.ensures.end c.take.ensures.token) c.expect.new.self c.in-Ok.ensures) c.in-Ok-cases.ensures.0 c.in-Ok-cases.ensures.1) c.expect-2.new.self c.in-Err-expect.halt c.in-Err-expect.ensures

pub prialt::prialt-returns-in-Ok-expect : goal.prialt::prialt-returns-in-Ok-expect
prialt::prialt-returns-in-Ok-expect t c = w.finished (w.mark_expected (w.form_read (w.mark_expected (w.mark_passed (w.start c.args.c.now (row.prialt_row c.args.c.now c.requires)) c.take.new.self c.requires c.take.ensures.end c.take.ensures.token) c.expect.new.self c.in-Ok.ensures) c.in-Ok-cases.ensures.0 c.in-Ok-cases.ensures.1) c.expect-2.new.self c.in-Ok-expect.ensures) (ap (λ at. s.Prialt at c.in-Ok-cases.read.0 c.in-Ok-cases.read.1) c.place-place.ensures)

pub prialt::cases-returns-then-not-is : goal.prialt::cases-returns-then-not-is
prialt::cases-returns-then-not-is t c = w.refused_front (row.no_cases c.args.c.now (c.if-not-is.ensures.no refl)) c.args.c.now refl None

pub prialt::cases-returns-in-Ok : goal.prialt::cases-returns-in-Ok
prialt::cases-returns-in-Ok t c = more.on_done (more.same_row c.args.c.now _ _ _ (λ v. v) (row.cases_row c.args.c.now (c.if-not-is.ensures.yes refl)) (row.case_row c.args.c.now (c.if-not-is.ensures.yes refl)) (λ vs. refl)) c.in-Ok.ensures.0 c.in-Ok.ensures.1 refl

pub prialt::cases-returns-in-Err : goal.prialt::cases-returns-in-Err
prialt::cases-returns-in-Err t c = more.on_halted (more.same_row c.args.c.now _ _ _ (λ v. v) (row.cases_row c.args.c.now (c.if-not-is.ensures.yes refl)) (row.case_row c.args.c.now (c.if-not-is.ensures.yes refl)) (λ vs. refl)) c.more_cases.new.c c.in-Err.halt c.in-Err.ensures

pub prialt::other-returns-in-Err : goal.prialt::other-returns-in-Err
prialt::other-returns-in-Err t c = w.refused_mark (w.mark_passed (w.start c.args.c.now (row.other_row c.args.c.now c.requires)) c.take.new.self c.requires c.take.ensures.end c.take.ensures.token) c.expect.new.self c.in-Err.halt c.in-Err.ensures

pub prialt::other-returns-in-Err-stmts : goal.prialt::other-returns-in-Err-stmts
prialt::other-returns-in-Err-stmts t c = w.halted (w.mark_expected (w.mark_passed (w.start c.args.c.now (row.other_row c.args.c.now c.requires)) c.take.new.self c.requires c.take.ensures.end c.take.ensures.token) c.expect.new.self c.in-Ok.ensures) c.stmts.new.c c.in-Err-stmts.halt c.in-Err-stmts.ensures

pub prialt::other-returns-in-Err-other_end : goal.prialt::other-returns-in-Err-other_end
prialt::other-returns-in-Err-other_end t c = w.halted (w.form_read (w.mark_expected (w.mark_passed (w.start c.args.c.now (row.other_row c.args.c.now c.requires)) c.take.new.self c.requires c.take.ensures.end c.take.ensures.token) c.expect.new.self c.in-Ok.ensures) c.in-Ok-stmts.ensures.0 c.in-Ok-stmts.ensures.1) c.other_end.new.c c.in-Err-other_end.halt c.in-Err-other_end.ensures

pub prialt::other-returns-in-Ok-other_end : goal.prialt::other-returns-in-Ok-other_end
prialt::other-returns-in-Ok-other_end t c = more.finished_as (λ other. ([], Some other)) (w.form_read (w.form_read (w.mark_expected (w.mark_passed (w.start c.args.c.now (row.other_row c.args.c.now c.requires)) c.take.new.self c.requires c.take.ensures.end c.take.ensures.token) c.expect.new.self c.in-Ok.ensures) c.in-Ok-stmts.ensures.0 c.in-Ok-stmts.ensures.1) c.in-Ok-other_end.ensures.0 c.in-Ok-other_end.ensures.1) _ (ap (λ at. ([], Some (roll-Other (record { place = at; stmts = c.in-Ok-stmts.stmts; has_break = c.in-Ok-other_end.has_break })))) c.place-place.ensures)

pub prialt::case-returns-in-Err : goal.prialt::case-returns-in-Err
prialt::case-returns-in-Err t c = c.in-Err.ensures _ _ _ _ (w.mark_passed (w.start c.args.c.now (row.case_row c.args.c.now c.requires)) c.take.new.self c.requires c.take.ensures.end c.take.ensures.token)

pub prialt::case-returns-in-Err-stmts : goal.prialt::case-returns-in-Err-stmts
prialt::case-returns-in-Err-stmts t c = w.halted (c.in-Ok.ensures.0 _ _ _ _ (w.mark_passed (w.start c.args.c.now (row.case_row c.args.c.now c.requires)) c.take.new.self c.requires c.take.ensures.end c.take.ensures.token)) c.stmts.new.c c.in-Err-stmts.halt c.in-Err-stmts.ensures

pub prialt::case-returns-in-Err-opt_break : goal.prialt::case-returns-in-Err-opt_break
prialt::case-returns-in-Err-opt_break t c = w.halted (w.form_read (c.in-Ok.ensures.0 _ _ _ _ (w.mark_passed (w.start c.args.c.now (row.case_row c.args.c.now c.requires)) c.take.new.self c.requires c.take.ensures.end c.take.ensures.token)) c.in-Ok-stmts.ensures.0 c.in-Ok-stmts.ensures.1) c.opt_break.new.c c.in-Err-opt_break.halt (turns.case_break_halts c.stmts.new.c c.opt_break.new.c c.in-Err-opt_break.halt c.in-Err-opt_break.ensures)

pub prialt::case-returns-in-Ok-opt_break : goal.prialt::case-returns-in-Ok-opt_break
prialt::case-returns-in-Ok-opt_break t c = let t0 = more.taken_shorter c.args.c.now c.take.new.self kinds.Case c.take.result c.requires c.take.ensures.end c.take.ensures.token in let t1 = c.in-Ok.ensures.1 in let t4 = w.Reads-shorter c.in-Ok-stmts.ensures.0 in
    turns.case_turn c.args.c.now c.stmts.new.c c.opt_break.new.c (λ b. roll-Case (record { place = (place_at c.args.c.now); channel = c.in-Ok.head.channel; offer = c.in-Ok.head.offer; stmts = c.in-Ok-stmts.stmts; has_break = b })) (more.on_walked (w.form_read (c.in-Ok.ensures.0 _ _ _ _ (w.mark_passed (w.start c.args.c.now (row.case_row c.args.c.now c.requires)) c.take.new.self c.requires c.take.ensures.end c.take.ensures.token)) c.in-Ok-stmts.ensures.0 c.in-Ok-stmts.ensures.1) (omega arith)) c.in-Ok-opt_break.has_break c.in-Ok-opt_break.ensures _ (c.case_of.ensures ∙ ap (λ at. roll-Case (record { place = at; channel = c.in-Ok.head.channel; offer = c.in-Ok.head.offer; stmts = c.in-Ok-stmts.stmts; has_break = c.in-Ok-opt_break.has_break })) c.place-place.ensures)

pub prialt::case-stmts-requires : goal.prialt::case-stmts-requires
prialt::case-stmts-requires t c = let t0 = more.taken_shorter c.args.c.now c.take.new.self kinds.Case c.take.result c.requires c.take.ensures.end c.take.ensures.token in let t1 = c.in-Ok.ensures.1 in search rules

pub macros::macro_proc-returns-in-Err : goal.macros::macro_proc-returns-in-Err
macros::macro_proc-returns-in-Err t c = w.halted (w.mark_passed (w.start c.args.c.now (row.macro_proc_row c.args.c.now c.requires)) c.take.new.self c.requires c.take.ensures.end c.take.ensures.token) c.name.new.c c.in-Err.halt c.in-Err.ensures

pub macros::macro_proc-returns-in-Err-params : goal.macros::macro_proc-returns-in-Err-params
macros::macro_proc-returns-in-Err-params t c = w.halted (w.form_read (w.mark_passed (w.start c.args.c.now (row.macro_proc_row c.args.c.now c.requires)) c.take.new.self c.requires c.take.ensures.end c.take.ensures.token) c.in-Ok.ensures.0 c.in-Ok.ensures.1) c.params.new.c c.in-Err-params.halt c.in-Err-params.ensures

pub macros::macro_proc-returns-in-Err-block : goal.macros::macro_proc-returns-in-Err-block
macros::macro_proc-returns-in-Err-block t c = w.halted (w.form_read (w.form_read (w.mark_passed (w.start c.args.c.now (row.macro_proc_row c.args.c.now c.requires)) c.take.new.self c.requires c.take.ensures.end c.take.ensures.token) c.in-Ok.ensures.0 c.in-Ok.ensures.1) c.in-Ok-params.ensures.0 c.in-Ok-params.ensures.1) c.block.new.c c.in-Err-block.halt c.in-Err-block.ensures

pub macros::macro_proc-returns-in-Ok-block : goal.macros::macro_proc-returns-in-Ok-block
macros::macro_proc-returns-in-Ok-block t c = w.finished_to (w.form_read (w.form_read (w.form_read (w.mark_passed (w.start c.args.c.now (row.macro_proc_row c.args.c.now c.requires)) c.take.new.self c.requires c.take.ensures.end c.take.ensures.token) c.in-Ok.ensures.0 c.in-Ok.ensures.1) c.in-Ok-params.ensures.0 c.in-Ok-params.ensures.1) c.in-Ok-block.ensures.0 c.in-Ok-block.ensures.1) refl

pub macros::macro_proc-block-requires : goal.macros::macro_proc-block-requires
macros::macro_proc-block-requires t c = let t0 = more.taken_shorter c.args.c.now c.take.new.self kinds.Proc c.take.result c.requires c.take.ensures.end c.take.ensures.token in let t1 = w.Reads-shorter c.in-Ok.ensures.0 in let t2 = w.Reads-shorter c.in-Ok-params.ensures.0 in search rules

pub macros::macro_tail-returns : goal.macros::macro_tail-returns
macros::macro_tail-returns t c = w.refused_front (row.no_macro c.args.c.now (c.if-is.ensures.no refl) (c.if-is-2.ensures.no refl)) c.args.c.now refl None

pub macros::macro_item-returns-in-Err : goal.macros::macro_item-returns-in-Err
macros::macro_item-returns-in-Err t c = more.refused_open f.«macro» c.args.c.now kinds.Macro _ _ (row.macro_end c.args.c.now) (row.macro_row c.args.c.now) c.expect.new.self c.in-Err.halt c.in-Err.ensures

pub macros::macro_item-returns-in-Err-macro_tail : goal.macros::macro_item-returns-in-Err-macro_tail
macros::macro_item-returns-in-Err-macro_tail t c = w.halted (w.mark_expected (w.start c.args.c.now (row.macro_row c.args.c.now _ (mark_there kinds.Macro c.args.c.now c.expect.new.self c.in-Ok.ensures))) c.expect.new.self c.in-Ok.ensures) c.macro_tail.new.c c.in-Err-macro_tail.halt c.in-Err-macro_tail.ensures

pub macros::macro_item-returns-in-Ok-macro_tail : goal.macros::macro_item-returns-in-Ok-macro_tail
macros::macro_item-returns-in-Ok-macro_tail t c = w.finished (w.form_read (w.mark_expected (w.start c.args.c.now (row.macro_row c.args.c.now _ (mark_there kinds.Macro c.args.c.now c.expect.new.self c.in-Ok.ensures))) c.expect.new.self c.in-Ok.ensures) c.in-Ok-macro_tail.ensures.1 c.in-Ok-macro_tail.ensures.3) (c.in-Ok-macro_tail.ensures.2 ∙ ap c.in-Ok-macro_tail.ensures.0 c.place-place.ensures)

pub block::block-returns-in-Err : goal.block::block-returns-in-Err
block::block-returns-in-Err t c = more.refused_open f.block c.args.c.now (kinds.Mark m.BraceOpen) _ _ (row.block_end c.args.c.now) (row.block_row c.args.c.now) c.expect.new.self c.in-Err.halt c.in-Err.ensures

pub block::block-returns-in-Err-declared : goal.block::block-returns-in-Err-declared
block::block-returns-in-Err-declared t c = w.halted (w.mark_expected (w.start c.args.c.now (row.block_row c.args.c.now _ (mark_there (kinds.Mark m.BraceOpen) c.args.c.now c.expect.new.self c.in-Ok.ensures))) c.expect.new.self c.in-Ok.ensures) c.declared.new.c c.in-Err-declared.halt c.in-Err-declared.ensures

pub block::block-returns-in-Err-stmts : goal.block::block-returns-in-Err-stmts
block::block-returns-in-Err-stmts t c = w.halted (w.form_read (w.mark_expected (w.start c.args.c.now (row.block_row c.args.c.now _ (mark_there (kinds.Mark m.BraceOpen) c.args.c.now c.expect.new.self c.in-Ok.ensures))) c.expect.new.self c.in-Ok.ensures) c.in-Ok-declared.ensures.0 c.in-Ok-declared.ensures.1) c.stmts.new.c c.in-Err-stmts.halt c.in-Err-stmts.ensures

pub block::block-returns-in-Err-expect : goal.block::block-returns-in-Err-expect
block::block-returns-in-Err-expect t c = w.refused_mark (w.form_read (w.form_read (w.mark_expected (w.start c.args.c.now (row.block_row c.args.c.now _ (mark_there (kinds.Mark m.BraceOpen) c.args.c.now c.expect.new.self c.in-Ok.ensures))) c.expect.new.self c.in-Ok.ensures) c.in-Ok-declared.ensures.0 c.in-Ok-declared.ensures.1) c.in-Ok-stmts.ensures.0 c.in-Ok-stmts.ensures.1) c.expect-2.new.self c.in-Err-expect.halt c.in-Err-expect.ensures

pub block::block-returns-in-Ok-expect : goal.block::block-returns-in-Ok-expect
block::block-returns-in-Ok-expect t c = w.finished (w.mark_expected (w.form_read (w.form_read (w.mark_expected (w.start c.args.c.now (row.block_row c.args.c.now _ (mark_there (kinds.Mark m.BraceOpen) c.args.c.now c.expect.new.self c.in-Ok.ensures))) c.expect.new.self c.in-Ok.ensures) c.in-Ok-declared.ensures.0 c.in-Ok-declared.ensures.1) c.in-Ok-stmts.ensures.0 c.in-Ok-stmts.ensures.1) c.expect-2.new.self c.in-Ok-expect.ensures) (ap (λ at. roll-Block (record { place = at; declared = c.in-Ok-declared.declared; stmts = c.in-Ok-stmts.stmts })) c.place-place.ensures)

pub block::block-stmts-requires : goal.block::block-stmts-requires
block::block-stmts-requires t c = let t1 = ap length c.in-Ok.ensures.1 in let t2 = w.Reads-shorter c.in-Ok-declared.ensures.0 in search rules

pub block::local_item-returns-in-Ok : goal.block::local_item-returns-in-Ok
block::local_item-returns-in-Ok t c = let less = more.full_shorter f.«macro» refl c.in-Ok.ensures.0 in (more.on_walked (w.form_read (w.start c.args.c.now (row.local_macro_row c.args.c.now (c.if-is.ensures.yes refl))) c.in-Ok.ensures.0 c.in-Ok.ensures.1) (omega arith), less)

pub block::local_item-returns-in-Err : goal.block::local_item-returns-in-Err
block::local_item-returns-in-Err t c = w.halted (w.start c.args.c.now (row.local_macro_row c.args.c.now (c.if-is.ensures.yes refl))) c.macro_item.new.c c.in-Err.halt c.in-Err.ensures

pub block::local_item-returns-in-Ok-decl : goal.block::local_item-returns-in-Ok-decl
block::local_item-returns-in-Ok-decl t c = let less = more.full_shorter (f.decl true) refl c.in-Ok-decl.ensures.0 in (more.on_walked (w.form_read (w.start c.args.c.now (row.local_decl_row c.args.c.now c.requires (c.if-is.ensures.no refl))) c.in-Ok-decl.ensures.0 c.in-Ok-decl.ensures.1) (omega arith), less)

pub block::local_item-returns-in-Err-decl : goal.block::local_item-returns-in-Err-decl
block::local_item-returns-in-Err-decl t c = w.halted (w.start c.args.c.now (row.local_decl_row c.args.c.now c.requires (c.if-is.ensures.no refl))) c.decl.new.c c.in-Err-decl.halt c.in-Err-decl.ensures

pub block::stmts-each-init : goal.block::stmts-each-init
block::stmts-each-init t c = subst (λ l. turn.GoesOn f.stmts c.args.c.now f.stmts (λ more. l ++ more) c.args.c.now) (sym c.new-list.ensures) (more.on_here f.stmts c.args.c.now)

pub block::stmts-each-smaller : goal.block::stmts-each-smaller
block::stmts-each-smaller t c = let less = more.full_shorter f.stmt refl c.in-Ok.ensures.0 in omega arith

pub block::stmts-each-preserved : goal.block::stmts-each-preserved
block::stmts-each-preserved t c = subst (λ l. turn.GoesOn f.stmts c.args.c.now f.stmts (λ more. l ++ more) c.stmt.new.c) (sym c.in-Ok-push.ensures.ok) (more.on_same (more.on_on c.each.invariant (more.on_walked (w.form_read (w.start c.each.c (row.stmts_row c.each.c (sym c.each-test.ensures))) c.in-Ok.ensures.0 c.in-Ok.ensures.1) (w.Reads-shorter c.in-Ok.ensures.0))) (λ v. sym (append_assoc c.each.list (c.in-Ok.next ∷ []) v)))

pub block::stmts-returns : goal.block::stmts-returns
block::stmts-returns t c = more.on_done c.each.invariant (more.row_done (w.start c.each.c (row.no_stmts_row c.each.c (sym c.each-test.ensures)))) refl (sym (append-nil c.each.list))

pub block::stmts-returns-in-Err : goal.block::stmts-returns-in-Err
block::stmts-returns-in-Err t c = more.on_halted c.each.invariant c.stmt.new.c c.in-Err.halt (w.halted (w.start c.each.c (row.stmts_row c.each.c (sym c.each-test.ensures))) c.stmt.new.c c.in-Err.halt c.in-Err.ensures)

pub block::stmts-stmt-requires : goal.block::stmts-stmt-requires
block::stmts-stmt-requires t c = let t1 = c.each.invariant.shorter in search rules

pub block::declared-each-init : goal.block::declared-each-init
block::declared-each-init t c = subst (λ l. turn.GoesOn f.declared c.args.c.now f.declared (λ more. l ++ more) c.args.c.now) (sym c.new-list.ensures) (more.on_here f.declared c.args.c.now)

pub block::declared-each-smaller : goal.block::declared-each-smaller
block::declared-each-smaller t c = let less = c.in-Ok.ensures.1 in omega arith

pub block::declared-each-preserved : goal.block::declared-each-preserved
block::declared-each-preserved t c = subst (λ l. turn.GoesOn f.declared c.args.c.now f.declared (λ more. l ++ more) c.local_item.new.c) (sym c.in-Ok-push.ensures.ok) (more.on_same (more.on_on c.each.invariant c.in-Ok.ensures.0) (λ v. sym (append_assoc c.each.list (c.in-Ok.item ∷ []) v)))

pub block::declared-returns : goal.block::declared-returns
block::declared-returns t c = more.on_done c.each.invariant (more.row_done (w.start c.each.c (row.no_local_row c.each.c (sym c.each-test.ensures)))) refl (sym (append-nil c.each.list))

pub block::declared-returns-in-Err : goal.block::declared-returns-in-Err
block::declared-returns-in-Err t c = more.on_halted c.each.invariant c.local_item.new.c c.in-Err.halt c.in-Err.ensures

pub block::declared-local_item-requires : goal.block::declared-local_item-requires
block::declared-local_item-requires t c = let t1 = c.each.invariant.shorter in search rules

pub switch::arm-returns-in-Err : goal.switch::arm-returns-in-Err
switch::arm-returns-in-Err t c = more.on_halted (turns.arm_here c.args.has_default.now c.args.c.now c.requires) c.labels.new.c c.in-Err.halt c.in-Err.ensures

pub switch::arm-returns-in-Err-stmts : goal.switch::arm-returns-in-Err-stmts
switch::arm-returns-in-Err-stmts t c = more.on_halted (more.on_on (turns.arm_here c.args.has_default.now c.args.c.now c.requires) c.in-Ok.ensures.0) c.stmts.new.c c.in-Err-stmts.halt (w.halted (w.start c.labels.new.c (row.no_label_row c.labels.new.has_default c.labels.new.c c.in-Ok.ensures.1)) c.stmts.new.c c.in-Err-stmts.halt c.in-Err-stmts.ensures)

pub switch::arm-returns-in-Err-opt_break : goal.switch::arm-returns-in-Err-opt_break
switch::arm-returns-in-Err-opt_break t c = more.on_halted (more.on_on (turns.arm_here c.args.has_default.now c.args.c.now c.requires) c.in-Ok.ensures.0) c.opt_break.new.c c.in-Err-opt_break.halt (w.halted (w.form_read (w.start c.labels.new.c (row.no_label_row c.labels.new.has_default c.labels.new.c c.in-Ok.ensures.1)) c.in-Ok-stmts.ensures.0 c.in-Ok-stmts.ensures.1) c.opt_break.new.c c.in-Err-opt_break.halt (turns.arm_break_halts c.labels.new.has_default c.stmts.new.c c.opt_break.new.c c.in-Err-opt_break.halt c.in-Err-opt_break.ensures))

pub switch::arm-returns-in-Ok-opt_break : goal.switch::arm-returns-in-Ok-opt_break
switch::arm-returns-in-Ok-opt_break t c = let less = w.Reads-shorter c.in-Ok-stmts.ensures.0 in
    turns.arm_turn c.args.has_default.now c.labels.new.has_default c.args.c.now c.stmts.new.c c.opt_break.new.c (λ b. roll-Arm (record { place = (place_at c.args.c.now); labels = c.in-Ok.labels; stmts = c.in-Ok-stmts.stmts; has_break = b }))
    (more.on_same (more.on_on (more.on_on (turns.arm_here c.args.has_default.now c.args.c.now c.requires) c.in-Ok.ensures.0) (more.on_walked (w.form_read (w.start c.labels.new.c (row.no_label_row c.labels.new.has_default c.labels.new.c c.in-Ok.ensures.1)) c.in-Ok-stmts.ensures.0 c.in-Ok-stmts.ensures.1) less)) (λ end. ap (λ labels. roll-Arm (record { place = place_at c.args.c.now; labels = labels; stmts = c.in-Ok-stmts.stmts; has_break = end.0 }) ∷ end.1) (append-nil c.in-Ok.labels)))
    c.in-Ok-opt_break.has_break c.in-Ok-opt_break.ensures _ (ap (λ at. roll-Arm (record { place = at; labels = c.in-Ok.labels; stmts = c.in-Ok-stmts.stmts; has_break = c.in-Ok-opt_break.has_break })) c.place-place.ensures)

pub switch::arm-stmts-requires : goal.switch::arm-stmts-requires
switch::arm-stmts-requires t c = let t1 = c.in-Ok.ensures.0.shorter in search rules

pub switch::arms-each-init : goal.switch::arms-each-init
switch::arms-each-init t c = subst (λ l. turn.GoesOn (f.arms false) c.args.c.now (f.arms false) (λ more. l ++ more) c.args.c.now) (sym c.new-list.ensures) (more.on_here (f.arms false) c.args.c.now)

pub switch::arms-each-smaller : goal.switch::arms-each-smaller
switch::arms-each-smaller t c = let less = (more.turn_on (f.arms c.each.has_default) (f.arms c.arm.new.has_default) (λ one more. one ∷ more) (λ one. one ∷ []) c.each.c c.arm.new.c c.in-Ok.read.0 c.in-Ok.read.1 c.if-not-has_break.false c.in-Ok.ensures).1 in omega arith

pub switch::arms-each-preserved : goal.switch::arms-each-preserved
switch::arms-each-preserved t c = subst (λ l. turn.GoesOn (f.arms false) c.args.c.now (f.arms c.arm.new.has_default) (λ more. l ++ more) c.arm.new.c) (sym c.in-Ok-push.ensures.ok) (more.on_same (more.on_on c.each.invariant (more.turn_on (f.arms c.each.has_default) (f.arms c.arm.new.has_default) (λ one more. one ∷ more) (λ one. one ∷ []) c.each.c c.arm.new.c c.in-Ok.read.0 c.in-Ok.read.1 c.if-not-has_break.false c.in-Ok.ensures).0) (λ v. sym (append_assoc c.each.list (c.in-Ok.read.0 ∷ []) v)))

pub switch::arms-returns : goal.switch::arms-returns
switch::arms-returns t c = more.on_done c.each.invariant (more.row_done (w.start c.each.c (row.no_arm_row c.each.has_default c.each.c (sym c.each-test.ensures)))) refl (sym (append-nil c.each.list))

pub switch::arms-returns-in-Err : goal.switch::arms-returns-in-Err
switch::arms-returns-in-Err t c = more.on_halted c.each.invariant c.arm.new.c c.in-Err.halt c.in-Err.ensures

pub switch::arms-returns-then-not-has_break : goal.switch::arms-returns-then-not-has_break
switch::arms-returns-then-not-has_break t c = let last = more.turn_last (f.arms c.each.has_default) (f.arms c.arm.new.has_default) (λ one more. one ∷ more) (λ one. one ∷ []) c.each.c c.arm.new.c c.in-Ok.read.0 c.in-Ok.read.1 c.if-not-has_break.true c.in-Ok.ensures in more.on_done c.each.invariant last.0 last.1 c.in-Ok-push.ensures.ok

pub switch::arms-arm-requires : goal.switch::arms-arm-requires
switch::arms-arm-requires t c = let t1 = c.each.invariant.shorter in search rules

pub prialt::more_cases-each-init : goal.prialt::more_cases-each-init
prialt::more_cases-each-init t c = subst (λ l. turn.GoesOn f.more_cases c.args.c.now f.more_cases (λ more. (l ++ more.0, more.1)) c.args.c.now) (sym c.new-list.ensures) (more.on_here f.more_cases c.args.c.now)

pub prialt::more_cases-each-smaller : goal.prialt::more_cases-each-smaller
prialt::more_cases-each-smaller t c = let less = (more.turn_on f.more_cases f.more_cases (λ one more. (one ∷ more.0, more.1)) (λ one. (one ∷ [], None)) c.each.c c.case.new.c c.in-Ok.read.0 c.in-Ok.read.1 c.if-not-has_break.false c.in-Ok.ensures).1 in omega arith

pub prialt::more_cases-each-preserved : goal.prialt::more_cases-each-preserved
prialt::more_cases-each-preserved t c = subst (λ l. turn.GoesOn f.more_cases c.args.c.now f.more_cases (λ more. (l ++ more.0, more.1)) c.case.new.c) (sym c.in-Ok-push.ensures.ok) (more.on_same (more.on_on c.each.invariant (more.turn_on f.more_cases f.more_cases (λ one more. (one ∷ more.0, more.1)) (λ one. (one ∷ [], None)) c.each.c c.case.new.c c.in-Ok.read.0 c.in-Ok.read.1 c.if-not-has_break.false c.in-Ok.ensures).0) (λ v. ap (λ l. (l, v.1)) (sym (append_assoc c.each.list (c.in-Ok.read.0 ∷ []) v.0))))

pub prialt::more_cases-returns-then-not-is : goal.prialt::more_cases-returns-then-not-is
prialt::more_cases-returns-then-not-is t c = more.on_done c.each.invariant (more.row_done (w.start c.each.c (row.no_more_row c.each.c (c.each-test.ensures.no refl) (c.if-not-is.ensures.no refl)))) refl (ap (λ l. (l, None)) (sym (append-nil c.each.list)))

pub prialt::more_cases-returns-in-Err : goal.prialt::more_cases-returns-in-Err
prialt::more_cases-returns-in-Err t c = more.on_halted c.each.invariant c.case.new.c c.in-Err.halt c.in-Err.ensures

pub prialt::more_cases-returns-then-not-has_break : goal.prialt::more_cases-returns-then-not-has_break
prialt::more_cases-returns-then-not-has_break t c = let last = more.turn_last f.more_cases f.more_cases (λ one more. (one ∷ more.0, more.1)) (λ one. (one ∷ [], None)) c.each.c c.case.new.c c.in-Ok.read.0 c.in-Ok.read.1 c.if-not-has_break.true c.in-Ok.ensures in more.on_done c.each.invariant last.0 last.1 (ap (λ l. (l, None)) c.in-Ok-push.ensures.ok)

pub prialt::more_cases-returns-in-Ok-other : goal.prialt::more_cases-returns-in-Ok-other
prialt::more_cases-returns-in-Ok-other t c = more.on_done c.each.invariant c.in-Ok-other.ensures.0 c.in-Ok-other.ensures.1 (ap (λ l. (l, Some c.in-Ok-other.other)) (sym (append-nil c.each.list)))

pub prialt::more_cases-returns-in-Err-other : goal.prialt::more_cases-returns-in-Err-other
prialt::more_cases-returns-in-Err-other t c = more.on_halted c.each.invariant c.other.new.c c.in-Err-other.halt c.in-Err-other.ensures

pub prialt::more_cases-case-requires : goal.prialt::more_cases-case-requires
prialt::more_cases-case-requires t c = let t1 = c.each.invariant.shorter in search rules

pub prialt::more_cases-other-requires : goal.prialt::more_cases-other-requires
prialt::more_cases-other-requires t c = let t1 = c.each.invariant.shorter in search rules

pub statement::marked-stepped-requires : goal.statement::marked-stepped-requires
statement::marked-stepped-requires t c = row.step_up c.args.c.now (c.if-is-3.ensures.yes refl)

pub statement::marked-stepped-requires-then-is-4 : goal.statement::marked-stepped-requires-then-is-4
statement::marked-stepped-requires-then-is-4 t c = row.step_down c.args.c.now (c.if-is-4.ensures.yes refl)

pub statement::marked-returns-in-Ok : goal.statement::marked-returns-in-Ok
statement::marked-returns-in-Ok t c = w.finished (w.form_read (w.start c.args.c.now (row.block_stmt_row c.args.c.now (c.if-is-2.ensures.yes refl))) c.in-Ok.ensures.0 c.in-Ok.ensures.1) refl

pub statement::marked-returns-in-Err : goal.statement::marked-returns-in-Err
statement::marked-returns-in-Err t c = w.halted (w.start c.args.c.now (row.block_stmt_row c.args.c.now (c.if-is-2.ensures.yes refl))) c.block.new.c c.in-Err.halt c.in-Err.ensures

pub statement::marked-returns : goal.statement::marked-returns
statement::marked-returns t c = w.refused_front (row.no_marked c.args.c.now c.requires (c.if-is.ensures.no refl) (c.if-is-2.ensures.no refl) (c.if-is-3.ensures.no refl) (c.if-is-4.ensures.no refl)) c.args.c.now refl None

pub statement::stmt-returns-in-None : goal.statement::stmt-returns-in-None
statement::stmt-returns-in-None t c = w.refused_front (row.stmt_end c.args.c.now (sym c.in-None.ensures)) c.args.c.now refl None

pub statement::stmt-named-requires : goal.statement::stmt-named-requires
statement::stmt-named-requires t c = ap (turn.begins is_name) (sym c.in-Some.ensures) ∙ (sym c.is_name.ensures ∙ c.if-is_name.true)

pub statement::stmt-marked-requires : goal.statement::stmt-marked-requires
statement::stmt-marked-requires t c = let own = row.is_other c.args.c.now c.in-Some.kind (sym c.in-Some.ensures) (sym c.is_name.ensures ∙ c.if-is_name.false) (c.if-is.ensures.no refl) (c.if-is-2.ensures.no refl) (c.if-is-3.ensures.no refl) (c.if-is-4.ensures.no refl) (c.if-is-5.ensures.no refl) (c.if-is-6.ensures.no refl) (c.if-is-7.ensures.no refl) (c.if-is-8.ensures.no refl) (c.if-is-9.ensures.no refl) (c.if-is-10.ensures.no refl) in (search rules, own)
