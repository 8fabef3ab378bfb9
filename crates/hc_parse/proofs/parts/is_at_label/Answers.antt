use Rattle.std.proofs.Common.{◌≡◌, false, refl, sym, subst}
use Rattle.hc_parse.specs.Turn as turn
use Rattle.hc_parse.proofs.RowsStatement as row
use Rattle.hc_parse.proofs.parts.is_at_label.Goals as goal

pub returns-then-is : goal.returns-then-is
returns-then-is c = row.label_case c.args.has_default c.args.c.now (c.if-is.ensures.yes refl)

pub returns-then-has_default : goal.returns-then-has_default
returns-then-has_default c = subst (λ d. false ≡ turn.begins (turn.begins_label d) (turn.next_kind c.args.c.now)) (sym c.if-has_default.true) (row.label_true c.args.c.now (c.if-is.ensures.no refl))

pub returns : goal.returns
returns c = subst (λ d. c.is-2.result ≡ turn.begins (turn.begins_label d) (turn.next_kind c.args.c.now)) (sym c.if-has_default.false) (row.label_false c.args.c.now (c.if-is.ensures.no refl) c.is-2.result c.is-2.ensures.yes c.is-2.ensures.no)
