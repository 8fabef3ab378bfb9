use Rattle.std.proofs.Common.{None, refl, sym, ap, ◌∙◌}
use Rattle.hc_grammar.specs.Walk as w
use Rattle.hc_tree.specs.declared.stmt.Simple.TheVariants as simple
use Rattle.hc_parse.proofs.WalksDeclaration.{passed_on}
use Rattle.hc_parse.proofs.RowsDeclaration as row
use Rattle.hc_parse.proofs.written.simple.Goals as goal

pub returns-then-len-eq0 : goal.returns-then-len-eq0
returns-then-len-eq0 c = w.refused_front (row.simple_none c.args.c.now (sym c.len.ensures ∙ c.if-len-eq0.true)) c.args.c.now refl None

pub returns-in-Err : goal.returns-in-Err
returns-in-Err c =
    let r = row.found_step c.args.c.now c.in-Some.step c.in-Some.ensures in
    w.halted (w.mark_passed (w.start c.args.c.now (row.before c.args.c.now r.0 c.in-Some.step r.1 r.2)) c.take.new.self (r.1) c.take.ensures.end c.take.ensures.token) c.target.new.c c.in-Err.halt c.in-Err.ensures

pub returns-in-Ok : goal.returns-in-Ok
returns-in-Ok c =
    let r = row.found_step c.args.c.now c.in-Some.step c.in-Some.ensures in
    w.finished (w.form_read (w.mark_passed (w.start c.args.c.now (row.before c.args.c.now r.0 c.in-Some.step r.1 r.2)) c.take.new.self (r.1) c.take.ensures.end c.take.ensures.token) c.in-Ok.ensures.0 c.in-Ok.ensures.1) (ap (λ at. simple.Before at c.in-Some.step c.in-Ok.target) c.place-place.ensures)

pub returns-in-Err-target : goal.returns-in-Err-target
returns-in-Err-target c = w.halted (w.start c.args.c.now (row.behind c.args.c.now (λ e. c.if-len-eq0.false (c.len.ensures ∙ e)) c.in_default.ensures)) c.target-2.new.c c.in-Err-target.halt c.in-Err-target.ensures

pub returns : goal.returns
returns c = passed_on (λ tail. tail c.in-Ok-target.to) (w.form_read (w.start c.args.c.now (row.behind c.args.c.now (λ e. c.if-len-eq0.false (c.len.ensures ∙ e)) c.in_default.ensures)) c.in-Ok-target.ensures.0 c.in-Ok-target.ensures.1) c.simple_tail.new.c c.simple_tail.result c.simple_tail.ensures
