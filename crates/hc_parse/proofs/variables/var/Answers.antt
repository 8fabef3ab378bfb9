use Rattle.std.proofs.Common.{None, refl, sym, ◌∙◌}
use Rattle.hc_grammar.specs.Walk as w
use Rattle.hc_parse.proofs.WalksDeclaration.{passed_on}
use Rattle.hc_parse.proofs.RowsDeclaration as row
use Rattle.hc_parse.proofs.variables.var.Goals as goal

pub returns-then-len-eq0 : goal.returns-then-len-eq0
returns-then-len-eq0 c = w.refused_front (row.var_none c.args.init c.args.c.now (sym c.len.ensures ∙ c.if-len-eq0.true)) c.args.c.now refl None

pub returns-in-Err : goal.returns-in-Err
returns-in-Err c = w.halted (w.start c.args.c.now (row.var c.args.init c.args.c.now (λ e. c.if-len-eq0.false (c.len.ensures ∙ e)))) c.name.new.c c.in-Err.halt c.in-Err.ensures

pub returns : goal.returns
returns c = passed_on (λ tail. tail c.in-Ok.name) (w.form_read (w.start c.args.c.now (row.var c.args.init c.args.c.now (λ e. c.if-len-eq0.false (c.len.ensures ∙ e)))) c.in-Ok.ensures.0 c.in-Ok.ensures.1) c.var_tail.new.c c.var_tail.result c.var_tail.ensures
