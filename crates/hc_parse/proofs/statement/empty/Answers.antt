use Rattle.std.proofs.Common.{ap}
use Rattle.hc_tree.specs.declared.stmt.Stmt.TheVariants as s
use Rattle.hc_grammar.specs.Walk as w
use Rattle.hc_parse.proofs.RowsStatement as row
use Rattle.hc_parse.proofs.statement.empty.Goals as goal

pub returns : goal.returns
returns c = w.finished (w.mark_passed (w.start c.args.c.now (row.empty_row c.args.c.now c.requires)) c.take.new.self c.requires c.take.ensures.end c.take.ensures.token) (ap s.Empty c.place-place.ensures)
