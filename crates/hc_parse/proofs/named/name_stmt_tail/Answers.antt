use Rattle.std.proofs.Common.{None, refl, sym, ◌∙◌}
use Rattle.hc_grammar.specs.Walk as w
use Rattle.hc_parse.proofs.RowsStatement as row
use Rattle.hc_parse.proofs.named.name_stmt_tail.Goals as goal

pub returns-then-len-eq0 : goal.returns-then-len-eq0
returns-then-len-eq0 c = w.refused_front (row.name_stmt_end c.args.c.now (row.no_front c.args.c.now (sym c.len.ensures ∙ c.if-len-eq0.true))) c.args.c.now refl None

pub written-requires : goal.written-requires
written-requires c = let k = row.some_front c.args.c.now (λ e. c.if-len-eq0.false (c.len.ensures ∙ e)) in row.is_written c.args.c.now k.0 k.1 (c.if-is.ensures.no refl) (c.if-is-2.ensures.no refl) (c.if-is-3.ensures.no refl)
