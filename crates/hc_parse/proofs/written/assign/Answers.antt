use Rattle.std.proofs.Common.{None, refl}
use Rattle.hc_grammar.specs.Walk as w
use Rattle.hc_parse.proofs.RowsDeclaration as row
use Rattle.hc_parse.proofs.written.assign.Goals as goal

pub returns-in-Some : goal.returns-in-Some
returns-in-Some c =
    let r = row.found_assign c.args.c.now c.in-Some.assign c.in-Some.ensures in
    w.finished (w.mark_passed (w.start c.args.c.now (row.assign_is c.args.c.now r.0 c.in-Some.assign r.1 r.2)) c.take.new.self (r.1) c.take.ensures.end c.take.ensures.token) refl

pub returns-in-None : goal.returns-in-None
returns-in-None c = w.refused_front (row.no_assign_is c.args.c.now c.in-None.ensures) c.args.c.now refl None
