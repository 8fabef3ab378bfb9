use Rattle.std.proofs.Common.{None, refl, sym, ◌∙◌}
use Rattle.hc_grammar.specs.Walk as w
use Rattle.hc_exparse.proofs.Rows as row
use Rattle.hc_exparse.proofs.types.unsigned_head.Goals as goal

pub returns-then-len-eq0-clause-words : goal.returns-then-len-eq0-clause-words
returns-then-len-eq0-clause-words c = w.refused_front (row.unsigned_none c.args.c.now (row.none_kind c.args.c.now (sym c.len.ensures ∙ c.if-len-eq0.true))) c.args.c.now refl None

pub returns-then-is-clause-words : goal.returns-then-is-clause-words
returns-then-is-clause-words c =
    w.mark_passed (w.start c.args.c.now (row.unsigned_int_row c.args.c.now (c.if-is.ensures.yes refl))) c.take.new.self (c.if-is.ensures.yes refl) c.take.ensures.end c.take.ensures.token

pub returns-clause-words : goal.returns-clause-words
returns-clause-words c =
    let k = row.some_kind c.args.c.now (λ e. c.if-len-eq0.false (c.len.ensures ∙ e)) in
    w.start c.args.c.now (row.unsigned_bare_row c.args.c.now k.0 (sym k.1) (c.if-is.ensures.no refl))
