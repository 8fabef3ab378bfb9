use Rattle.std.proofs.Common.{refl}
use Rattle.hc_grammar.specs.Walk.{start, mark_expected, mark_passed, finished_to, refused_mark}
use Rattle.hc_parse.proofs.WalksItem.{both_read, both_halted}
use Rattle.hc_parse.proofs.RowsItem as row
use Rattle.hc_parse.proofs.item.family.Goals as goal

pub returns-in-Err : goal.returns-in-Err
returns-in-Err c =
    let w0 = mark_passed (start c.args.c.now (row.family_row c.args.c.now c.requires)) c.take.new.self c.requires c.take.ensures.end c.take.ensures.token in
    refused_mark w0 c.expect.new.self c.in-Err.halt c.in-Err.ensures

pub returns-in-Err-name_before : goal.returns-in-Err-name_before
returns-in-Err-name_before c =
    let w0 = mark_passed (start c.args.c.now (row.family_row c.args.c.now c.requires)) c.take.new.self c.requires c.take.ensures.end c.take.ensures.token in
    let w1 = mark_expected w0 c.expect.new.self c.in-Ok.ensures in
    both_halted w1 c.name_before.new.c c.in-Err-name_before.halt c.in-Err-name_before.ensures

pub returns-in-Ok-name_before : goal.returns-in-Ok-name_before
returns-in-Ok-name_before c =
    let w0 = mark_passed (start c.args.c.now (row.family_row c.args.c.now c.requires)) c.take.new.self c.requires c.take.ensures.end c.take.ensures.token in
    let w1 = mark_expected w0 c.expect.new.self c.in-Ok.ensures in
    let w2 = both_read w1 c.name_before.new.c c.in-Ok-name_before.ensures in
    finished_to w2 refl
