use Rattle.std.proofs.Common.{refl}
use Rattle.hc_grammar.specs.Walk as w
use Rattle.hc_parse.proofs.RowsDeclaration as row
use Rattle.hc_parse.proofs.names.opt_params.Goals as goal

pub returns-then-not-is : goal.returns-then-not-is
returns-then-not-is c = w.finished (w.start c.args.c.now (row.no_opt_params c.args.c.now (c.if-not-is.ensures.no refl))) refl

pub returns-in-Err : goal.returns-in-Err
returns-in-Err c = w.halted (w.start c.args.c.now (row.opt_params c.args.c.now (c.if-not-is.ensures.yes refl))) c.params.new.c c.in-Err.halt c.in-Err.ensures

pub returns-in-Ok : goal.returns-in-Ok
returns-in-Ok c = w.finished (w.form_read (w.start c.args.c.now (row.opt_params c.args.c.now (c.if-not-is.ensures.yes refl))) c.in-Ok.ensures.0 c.in-Ok.ensures.1) refl
