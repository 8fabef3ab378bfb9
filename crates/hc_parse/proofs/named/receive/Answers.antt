use Rattle.std.proofs.Common.{refl}
use Rattle.hc_grammar.specs.Walk as w
use Rattle.hc_parse.proofs.RowsStatement as row
use Rattle.hc_parse.proofs.named.receive.Goals as goal

pub returns-in-Err : goal.returns-in-Err
returns-in-Err c = w.halted (w.mark_passed (w.start c.args.c.now (row.receive_row c.args.c.now c.requires)) c.take.new.self c.requires c.take.ensures.end c.take.ensures.token) c.target.new.c c.in-Err.halt c.in-Err.ensures

pub returns-in-Err-expect : goal.returns-in-Err-expect
returns-in-Err-expect c = w.refused_mark (w.form_read (w.mark_passed (w.start c.args.c.now (row.receive_row c.args.c.now c.requires)) c.take.new.self c.requires c.take.ensures.end c.take.ensures.token) c.in-Ok.ensures.0 c.in-Ok.ensures.1) c.expect.new.self c.in-Err-expect.halt c.in-Err-expect.ensures

pub returns-in-Ok-expect : goal.returns-in-Ok-expect
returns-in-Ok-expect c = w.finished_to (w.mark_expected (w.form_read (w.mark_passed (w.start c.args.c.now (row.receive_row c.args.c.now c.requires)) c.take.new.self c.requires c.take.ensures.end c.take.ensures.token) c.in-Ok.ensures.0 c.in-Ok.ensures.1) c.expect.new.self c.in-Ok-expect.ensures) refl
