use Rattle.std.proofs.Common.{refl}
use Rattle.hc_grammar.specs.Walk as w
use Rattle.hc_parse.proofs.RowsStatement as row
use Rattle.hc_parse.proofs.named.send.Goals as goal

pub returns-in-Err : goal.returns-in-Err
returns-in-Err c = c.in-Err.ensures _ _ _ _ (w.mark_passed (w.start c.args.c.now (row.send_row c.args.c.now c.requires)) c.take.new.self c.requires c.take.ensures.end c.take.ensures.token)

pub returns-in-Ok : goal.returns-in-Ok
returns-in-Ok c = w.finished_to (c.in-Ok.ensures.0 _ _ _ _ (w.mark_passed (w.start c.args.c.now (row.send_row c.args.c.now c.requires)) c.take.new.self c.requires c.take.ensures.end c.take.ensures.token)) refl
