use Rattle.std.proofs.Common.{refl, arith}
use Rattle.hc_lex.specs.declared.mark.Mark.TheVariants as m
use Rattle.hc_grammar.specs.declared.kind.Kind.TheVariants as kinds
use Rattle.hc_grammar.specs.Form as f
use Rattle.hc_grammar.specs.Walk as w
use Rattle.hc_exparse.proofs.More.{taken_shorter}
use Rattle.hc_parse.proofs.More.{Went-none, Went-more, Went-done, Went-halted}
use Rattle.hc_parse.proofs.RowsDeclaration as row
use Rattle.hc_parse.proofs.with_list.more_texts.Goals as goal

pub each-init : goal.each-init
each-init c = Went-none f.more_texts (λ more. more) c.args.c.now c.args.list.now

pub each-preserved : goal.each-preserved
each-preserved c =
    let fewer = taken_shorter c.each.c c.take.new.self (kinds.Mark m.Comma) c.take.result (c.each-test.ensures.yes refl) c.take.ensures.end c.take.ensures.token in
    let less = w.Reads-shorter c.in-Ok.ensures.0 in
    Went-more c.each.invariant c.text.new.c c.in-Ok.next (w.form_read (w.mark_passed (w.start c.each.c (row.more_texts c.each.c (c.each-test.ensures.yes refl))) c.take.new.self (c.each-test.ensures.yes refl) c.take.ensures.end c.take.ensures.token) c.in-Ok.ensures.0 c.in-Ok.ensures.1) (λ more. refl) (omega arith) c.in-Ok-push.ensures.ok

pub each-smaller : goal.each-smaller
each-smaller c =
    let fewer = taken_shorter c.each.c c.take.new.self (kinds.Mark m.Comma) c.take.result (c.each-test.ensures.yes refl) c.take.ensures.end c.take.ensures.token in
    let less = w.Reads-shorter c.in-Ok.ensures.0 in
    omega arith

pub returns : goal.returns
returns c = Went-done c.each.invariant (w.start c.each.c (row.no_more_texts c.each.c (c.each-test.ensures.no refl))) refl

pub returns-in-Err : goal.returns-in-Err
returns-in-Err c = Went-halted c.each.invariant c.text.new.c c.in-Err.halt (w.halted (w.mark_passed (w.start c.each.c (row.more_texts c.each.c (c.each-test.ensures.yes refl))) c.take.new.self (c.each-test.ensures.yes refl) c.take.ensures.end c.take.ensures.token) c.text.new.c c.in-Err.halt c.in-Err.ensures)
