use Rattle.std.proofs.Common.{refl}
use Rattle.hc_grammar.specs.Table.{done}
use Rattle.hc_grammar.specs.Walk.{start, mark_passed}
use Rattle.hc_parse.proofs.RowsItem as row
use Rattle.hc_parse.proofs.item.opt_void.Goals as goal

pub returns-then-is-clause-reads : goal.returns-then-is-clause-reads
returns-then-is-clause-reads c =
    let w = mark_passed (start c.args.c.now (row.void_row c.args.c.now (c.if-is.ensures.yes refl))) c.take.new.self (c.if-is.ensures.yes refl) c.take.ensures.end c.take.ensures.token in
    w.reads tt c.take.new.self.rest done

pub returns-clause-reads : goal.returns-clause-reads
returns-clause-reads c =
    let w = start c.args.c.now (row.no_void_row c.args.c.now (c.if-is.ensures.no refl)) in
    w.reads tt c.args.c.now.rest done
