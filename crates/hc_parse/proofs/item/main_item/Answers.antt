use Rattle.std.proofs.Common.{ap}
use Rattle.hc_tree.specs.declared.item.Item.TheVariants as item
use Rattle.hc_grammar.specs.Walk.{start, mark_expected, mark_passed, form_read, finished, refused_mark, halted}
use Rattle.hc_parse.proofs.RowsItem as row
use Rattle.hc_parse.proofs.item.main_item.Goals as goal

pub returns-in-Err : goal.returns-in-Err
returns-in-Err c =
    let w0 = mark_passed (start c.args.c.now (row.main_row c.args.c.now c.requires)) c.take.new.self c.requires c.take.ensures.end c.take.ensures.token in
    refused_mark w0 c.expect.new.self c.in-Err.halt c.in-Err.ensures

pub returns-in-Err-expect : goal.returns-in-Err-expect
returns-in-Err-expect c =
    let w0 = mark_passed (start c.args.c.now (row.main_row c.args.c.now c.requires)) c.take.new.self c.requires c.take.ensures.end c.take.ensures.token in
    let w1 = mark_expected w0 c.expect.new.self c.in-Ok.ensures in
    refused_mark w1 c.expect-2.new.self c.in-Err-expect.halt c.in-Err-expect.ensures

pub returns-in-Err-expect-2 : goal.returns-in-Err-expect-2
returns-in-Err-expect-2 c =
    let w0 = mark_passed (start c.args.c.now (row.main_row c.args.c.now c.requires)) c.take.new.self c.requires c.take.ensures.end c.take.ensures.token in
    let w1 = mark_expected w0 c.expect.new.self c.in-Ok.ensures in
    let w2 = mark_expected w1 c.expect-2.new.self c.in-Ok-expect.ensures in
    let w3 = form_read w2 c.opt_void-says_void.ensures.reads c.opt_void-says_void.ensures.end in
    refused_mark w3 c.expect-3.new.self c.in-Err-expect-2.halt c.in-Err-expect-2.ensures

pub returns-in-Err-block : goal.returns-in-Err-block
returns-in-Err-block c =
    let w0 = mark_passed (start c.args.c.now (row.main_row c.args.c.now c.requires)) c.take.new.self c.requires c.take.ensures.end c.take.ensures.token in
    let w1 = mark_expected w0 c.expect.new.self c.in-Ok.ensures in
    let w2 = mark_expected w1 c.expect-2.new.self c.in-Ok-expect.ensures in
    let w3 = form_read w2 c.opt_void-says_void.ensures.reads c.opt_void-says_void.ensures.end in
    let w4 = mark_expected w3 c.expect-3.new.self c.in-Ok-expect-2.ensures in
    halted w4 c.block.new.c c.in-Err-block.halt c.in-Err-block.ensures

pub returns-in-Ok-block : goal.returns-in-Ok-block
returns-in-Ok-block c =
    let w0 = mark_passed (start c.args.c.now (row.main_row c.args.c.now c.requires)) c.take.new.self c.requires c.take.ensures.end c.take.ensures.token in
    let w1 = mark_expected w0 c.expect.new.self c.in-Ok.ensures in
    let w2 = mark_expected w1 c.expect-2.new.self c.in-Ok-expect.ensures in
    let w3 = form_read w2 c.opt_void-says_void.ensures.reads c.opt_void-says_void.ensures.end in
    let w4 = mark_expected w3 c.expect-3.new.self c.in-Ok-expect-2.ensures in
    let w5 = form_read w4 c.in-Ok-block.ensures.0 c.in-Ok-block.ensures.1 in
    finished w5 (ap (λ at. item.Main at c.opt_void-says_void.result c.in-Ok-block.body) c.place-place.ensures)
