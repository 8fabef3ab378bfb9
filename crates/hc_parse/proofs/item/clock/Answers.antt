use Rattle.std.proofs.Common.{refl}
use Rattle.hc_grammar.specs.Walk.{start, mark_expected, mark_passed, form_read, finished_to, refused_mark, halted}
use Rattle.hc_parse.proofs.WalksItem.{both_read, both_halted}
use Rattle.hc_parse.proofs.RowsItem as row
use Rattle.hc_parse.proofs.item.clock.Goals as goal

pub returns-in-Err : goal.returns-in-Err
returns-in-Err c =
    let w0 = mark_passed (start c.args.c.now (row.clock_row c.args.c.now c.requires)) c.take.new.self c.requires c.take.ensures.end c.take.ensures.token in
    refused_mark w0 c.expect.new.self c.in-Err.halt c.in-Err.ensures

pub returns-in-Err-expect : goal.returns-in-Err-expect
returns-in-Err-expect c =
    let w0 = mark_passed (start c.args.c.now (row.clock_row c.args.c.now c.requires)) c.take.new.self c.requires c.take.ensures.end c.take.ensures.token in
    let w1 = mark_expected w0 c.expect.new.self c.in-Ok.ensures in
    refused_mark w1 c.expect-2.new.self c.in-Err-expect.halt c.in-Err-expect.ensures

pub returns-in-Err-text : goal.returns-in-Err-text
returns-in-Err-text c =
    let w0 = mark_passed (start c.args.c.now (row.clock_row c.args.c.now c.requires)) c.take.new.self c.requires c.take.ensures.end c.take.ensures.token in
    let w1 = mark_expected w0 c.expect.new.self c.in-Ok.ensures in
    let w2 = mark_expected w1 c.expect-2.new.self c.in-Ok-expect.ensures in
    halted w2 c.text.new.c c.in-Err-text.halt c.in-Err-text.ensures

pub returns-in-Err-with_end : goal.returns-in-Err-with_end
returns-in-Err-with_end c =
    let w0 = mark_passed (start c.args.c.now (row.clock_row c.args.c.now c.requires)) c.take.new.self c.requires c.take.ensures.end c.take.ensures.token in
    let w1 = mark_expected w0 c.expect.new.self c.in-Ok.ensures in
    let w2 = mark_expected w1 c.expect-2.new.self c.in-Ok-expect.ensures in
    let w3 = form_read w2 c.in-Ok-text.ensures.0 c.in-Ok-text.ensures.1 in
    both_halted w3 c.with_end.new.c c.in-Err-with_end.halt c.in-Err-with_end.ensures

pub returns-in-Ok-with_end : goal.returns-in-Ok-with_end
returns-in-Ok-with_end c =
    let w0 = mark_passed (start c.args.c.now (row.clock_row c.args.c.now c.requires)) c.take.new.self c.requires c.take.ensures.end c.take.ensures.token in
    let w1 = mark_expected w0 c.expect.new.self c.in-Ok.ensures in
    let w2 = mark_expected w1 c.expect-2.new.self c.in-Ok-expect.ensures in
    let w3 = form_read w2 c.in-Ok-text.ensures.0 c.in-Ok-text.ensures.1 in
    let w4 = both_read w3 c.with_end.new.c c.in-Ok-with_end.ensures in
    finished_to w4 refl
