use Rattle.std.proofs.Common.{refl, sym, ap, ◌∙◌}
use Rattle.hc_parse.specs.Turn as turn
use Rattle.hc_parse.proofs.RowsStatement as row
use Rattle.hc_parse.proofs.parts.is_at_local.Goals as goal

pub returns-then-is : goal.returns-then-is
returns-then-is c = row.local_macro c.args.c.now (c.if-is.ensures.yes refl)

pub returns-in-Some : goal.returns-in-Some
returns-in-Some c = c.begins_decl.ensures ∙ row.local_other c.args.c.now c.in-Some.kind (sym c.in-Some.ensures) (c.if-is.ensures.no refl)

pub returns-in-None : goal.returns-in-None
returns-in-None c = ap (turn.begins turn.begins_local) c.in-None.ensures
