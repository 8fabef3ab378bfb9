use Rattle.std.proofs.Common.{ap}
use Rattle.hc_tree.specs.declared.stmt.Stmt.TheVariants as s
use Rattle.hc_grammar.specs.Walk as w
use Rattle.hc_parse.proofs.RowsStatement as row
use Rattle.hc_parse.proofs.statement.delay.Goals as goal

pub returns-in-Err : goal.returns-in-Err
returns-in-Err c = w.refused_mark (w.mark_passed (w.start c.args.c.now (row.delay_row c.args.c.now c.requires)) c.take.new.self c.requires c.take.ensures.end c.take.ensures.token) c.expect.new.self c.in-Err.halt c.in-Err.ensures

pub returns-in-Ok : goal.returns-in-Ok
returns-in-Ok c = w.finished (w.mark_expected (w.mark_passed (w.start c.args.c.now (row.delay_row c.args.c.now c.requires)) c.take.new.self c.requires c.take.ensures.end c.take.ensures.token) c.expect.new.self c.in-Ok.ensures) (ap s.Delay c.place-place.ensures)
