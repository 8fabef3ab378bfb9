use Rattle.std.proofs.Common.{refl}
use Rattle.hc_grammar.specs.Walk as w
use Rattle.hc_parse.proofs.RowsStatement as row
use Rattle.hc_parse.proofs.named.call.Goals as goal

pub returns-in-Err : goal.returns-in-Err
returns-in-Err c = w.halted (w.mark_passed (w.start c.args.c.now (row.call_row c.args.c.now c.requires)) c.take.new.self c.requires c.take.ensures.end c.take.ensures.token) c.args-2.new.c c.in-Err.halt c.in-Err.ensures

pub returns-in-Err-expect : goal.returns-in-Err-expect
returns-in-Err-expect c = w.refused_mark (w.form_read (w.mark_passed (w.start c.args.c.now (row.call_row c.args.c.now c.requires)) c.take.new.self c.requires c.take.ensures.end c.take.ensures.token) c.in-Ok.ensures.0 c.in-Ok.ensures.1) c.expect.new.self c.in-Err-expect.halt c.in-Err-expect.ensures

pub returns-in-Err-expect-2 : goal.returns-in-Err-expect-2
returns-in-Err-expect-2 c = w.refused_mark (w.mark_expected (w.form_read (w.mark_passed (w.start c.args.c.now (row.call_row c.args.c.now c.requires)) c.take.new.self c.requires c.take.ensures.end c.take.ensures.token) c.in-Ok.ensures.0 c.in-Ok.ensures.1) c.expect.new.self c.in-Ok-expect.ensures) c.expect-2.new.self c.in-Err-expect-2.halt c.in-Err-expect-2.ensures

pub returns-in-Ok-expect-2 : goal.returns-in-Ok-expect-2
returns-in-Ok-expect-2 c = w.finished_to (w.mark_expected (w.mark_expected (w.form_read (w.mark_passed (w.start c.args.c.now (row.call_row c.args.c.now c.requires)) c.take.new.self c.requires c.take.ensures.end c.take.ensures.token) c.in-Ok.ensures.0 c.in-Ok.ensures.1) c.expect.new.self c.in-Ok-expect.ensures) c.expect-2.new.self c.in-Ok-expect-2.ensures) refl
