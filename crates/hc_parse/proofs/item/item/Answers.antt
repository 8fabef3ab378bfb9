use Rattle.std.proofs.Common.{refl}
use Rattle.hc_grammar.specs.Walk.{start, form_read, finished, halted}
use Rattle.hc_parse.proofs.WalksItem.{decl_read, decl_halted}
use Rattle.hc_parse.proofs.RowsItem as row
use Rattle.hc_parse.proofs.item.item.Goals as goal

pub returns-in-Ok : goal.returns-in-Ok
returns-in-Ok c = finished (form_read (start c.args.c.now (row.macro_row c.args.c.now (c.if-is-4.ensures.yes refl))) c.in-Ok.ensures.0 c.in-Ok.ensures.1) refl

pub returns-in-Err : goal.returns-in-Err
returns-in-Err c = halted (start c.args.c.now (row.macro_row c.args.c.now (c.if-is-4.ensures.yes refl))) c.macro_item.new.c c.in-Err.halt c.in-Err.ensures

pub returns-in-Ok-decl : goal.returns-in-Ok-decl
returns-in-Ok-decl c = decl_read (row.decl_row c.args.c.now (c.if-is.ensures.no refl) (c.if-is-2.ensures.no refl) (c.if-is-4.ensures.no refl) (c.if-is-3.ensures.no refl)) c.in-Ok-decl.ensures

pub returns-in-Err-decl : goal.returns-in-Err-decl
returns-in-Err-decl c = decl_halted c.args.c.now (row.decl_row c.args.c.now (c.if-is.ensures.no refl) (c.if-is-2.ensures.no refl) (c.if-is-4.ensures.no refl) (c.if-is-3.ensures.no refl)) c.decl.new.c c.in-Err-decl.halt c.in-Err-decl.ensures
