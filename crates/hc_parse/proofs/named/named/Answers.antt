use Rattle.hc_grammar.specs.Walk as w
use Rattle.hc_parse.proofs.RowsStatement as row
use Rattle.hc_parse.proofs.named.named.Goals as goal

pub returns-in-Err : goal.returns-in-Err
returns-in-Err c = w.halted (w.start c.args.c.now (row.named_row c.args.c.now c.requires)) c.name.new.c c.in-Err.halt c.in-Err.ensures

pub returns-in-Err-name_stmt_tail : goal.returns-in-Err-name_stmt_tail
returns-in-Err-name_stmt_tail c = w.halted (w.form_read (w.start c.args.c.now (row.named_row c.args.c.now c.requires)) c.in-Ok.ensures.0 c.in-Ok.ensures.1) c.name_stmt_tail.new.c c.in-Err-name_stmt_tail.halt c.in-Err-name_stmt_tail.ensures

pub returns-in-Ok-name_stmt_tail : goal.returns-in-Ok-name_stmt_tail
returns-in-Ok-name_stmt_tail c = w.finished (w.form_read (w.form_read (w.start c.args.c.now (row.named_row c.args.c.now c.requires)) c.in-Ok.ensures.0 c.in-Ok.ensures.1) c.in-Ok-name_stmt_tail.ensures.1 c.in-Ok-name_stmt_tail.ensures.3) (c.in-Ok-name_stmt_tail.ensures.2)
