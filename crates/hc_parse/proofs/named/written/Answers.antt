use Rattle.std.proofs.Common.{ap}
use Rattle.hc_tree.specs.declared.stmt.Stmt.TheVariants as s
use Rattle.hc_grammar.specs.Walk as w
use Rattle.hc_parse.proofs.RowsStatement as row
use Rattle.hc_parse.proofs.named.written.Goals as goal

pub returns-in-Err : goal.returns-in-Err
returns-in-Err c = w.halted (w.start c.args.c.now (row.written_row c.args.c.now c.requires)) c.index.new.c c.in-Err.halt c.in-Err.ensures

pub returns-in-Err-simple_tail : goal.returns-in-Err-simple_tail
returns-in-Err-simple_tail c = w.halted (w.form_read (w.start c.args.c.now (row.written_row c.args.c.now c.requires)) c.in-Ok.ensures.0 c.in-Ok.ensures.1) c.simple_tail.new.c c.in-Err-simple_tail.halt c.in-Err-simple_tail.ensures

pub returns-in-Err-expect : goal.returns-in-Err-expect
returns-in-Err-expect c = w.refused_mark (w.form_read (w.form_read (w.start c.args.c.now (row.written_row c.args.c.now c.requires)) c.in-Ok.ensures.0 c.in-Ok.ensures.1) c.in-Ok-simple_tail.ensures.1 c.in-Ok-simple_tail.ensures.3) c.expect.new.self c.in-Err-expect.halt c.in-Err-expect.ensures

pub returns-in-Ok-expect : goal.returns-in-Ok-expect
returns-in-Ok-expect c = w.finished_to (w.mark_expected (w.form_read (w.form_read (w.start c.args.c.now (row.written_row c.args.c.now c.requires)) c.in-Ok.ensures.0 c.in-Ok.ensures.1) c.in-Ok-simple_tail.ensures.1 c.in-Ok-simple_tail.ensures.3) c.expect.new.self c.in-Ok-expect.ensures) (ap s.Simple c.in-Ok-simple_tail.ensures.2)
