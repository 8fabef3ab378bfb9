use Rattle.std.proofs.Common.{None, refl}
use Rattle.hc_grammar.specs.Walk.{refused_front}
use Rattle.hc_parse.proofs.RowsItem as row
use Rattle.hc_parse.proofs.item.set_tail.Goals as goal

pub returns : goal.returns
returns c = refused_front (row.no_set_row c.args.c.now (c.if-is.ensures.no refl) (c.if-is-2.ensures.no refl) (c.if-is-3.ensures.no refl)) c.args.c.now refl None
